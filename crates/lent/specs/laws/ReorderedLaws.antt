-- What stays where a list is reordered: whatever adds up over the elements, such as the length, and what holds of every element; and which lists are
-- reordered: those whose parts are, or are exchanged.
use Rattle.std.specs.Prelude.{ℕ, suc, ◌+◌, ◌<◌, ◌≡◌, refl, Bool, cond, List, [], ◌∷◌, ◌++◌, map, length, get_or}
use Rattle.std.proofs.Common.{arith, ◌∙◌}
use Rattle.lent.specs.Every.{Every}
use Rattle.lent.specs.Reordered.{Reordered, none, keep, exchange, twice}

module _ {A : Type 0} where
  -- what adds up over the elements stays the same
  pub reordered_sum : (F : List A → ℕ) (w : A → ℕ) → ((x : A) (l : List A) → F (x ∷ l) ≡ w x + F l) → {l m : List A} → Reordered l m → F l ≡ F m
  reordered_sum F w step none = refl
  reordered_sum F w step (keep x {l} {m} r) = omega (arith, step x l, step x m, reordered_sum F w step r)
  reordered_sum F w step (exchange x y l) =
      omega (arith, step x (y ∷ l), step y l, step y (x ∷ l), step x l)
  reordered_sum F w step (twice r s) = reordered_sum F w step r ∙ reordered_sum F w step s

  pub length_reordered : {l m : List A} → Reordered l m → length l ≡ length m
  length_reordered r = reordered_sum length (λ x. 1) (λ x l. omega arith) r

  -- every list is itself in some order
  pub reordered_refl : (l : List A) → Reordered l l
  reordered_refl [] = none
  reordered_refl (x ∷ l) = keep x (reordered_refl l)

  -- behind the same front
  pub reordered_behind : (front : List A) {l m : List A} → Reordered l m → Reordered (front ++ l) (front ++ m)
  reordered_behind [] r = r
  reordered_behind (x ∷ front) r = keep x (reordered_behind front r)

  -- an element moved past a front
  pub reordered_past : (x : A) (front l : List A) → Reordered (x ∷ (front ++ l)) (front ++ (x ∷ l))
  reordered_past x [] l = reordered_refl (x ∷ l)
  reordered_past x (y ∷ front) l = twice (exchange x y (front ++ l)) (keep y (reordered_past x front l))

  -- two fronts exchanged
  pub reordered_exchange : (a b l : List A) → Reordered (a ++ (b ++ l)) (b ++ (a ++ l))
  reordered_exchange [] b l = reordered_refl (b ++ l)
  reordered_exchange (x ∷ a) b l = twice (keep x (reordered_exchange a b l)) (reordered_past x b (a ++ l))

-- what is made of each element is reordered too
pub map_reordered : {A B : Type 0} (f : A → B) {l m : List A} → Reordered l m → Reordered (map f l) (map f m)
map_reordered f none = none
map_reordered f (keep x r) = keep (f x) (map_reordered f r)
map_reordered f (exchange x y l) = exchange (f x) (f y) (map f l)
map_reordered f (twice r s) = twice (map_reordered f r) (map_reordered f s)

-- what holds of every element holds of every one in whatever order
pub every_reordered : {A : Type 0} (P : A → Type 0) {l m : List A} → Reordered l m → Every P l → Every P m
every_reordered P none h = h
every_reordered P (keep x r) h = (h.0, every_reordered P r h.1)
every_reordered P (exchange x y l) h = (h.1.0, (h.0, h.1.1))
every_reordered P (twice r s) h = every_reordered P s (every_reordered P r h)

-- and so something else of what is made of each
pub every_mapped : {A B : Type 0} (P : A → Type 0) (Q : B → Type 0) (f : A → B) (l : List A) → ((x : A) → P x → Q (f x)) → Every P l → Every Q (map f l)
every_mapped P Q f [] g h = tt
every_mapped P Q f (x ∷ l) g h = (g x h.0, every_mapped P Q f l g h.1)

-- what holds at each place
pub every_at : {A : Type 0} (P : A → Type 0) (l : List A) (d : A) → ((k : ℕ) → k < length l → P (get_or l k d)) → Every P l
every_at P [] d each = tt
every_at P (x ∷ l) d each = (each 0 (omega arith), every_at P l d (λ k h. each (suc k) (omega arith)))

-- how many elements pass a test
unfoldable pub tally : {A : Type 0} → (A → Bool) → List A → ℕ
tally test [] = 0
tally test (x ∷ l) = cond (test x) 1 0 + tally test l

-- in whatever order
pub tally_reordered : {A : Type 0} (test : A → Bool) {l m : List A} → Reordered l m → tally test l ≡ tally test m
unfolding tally
tally_reordered test r = reordered_sum (tally test) (λ x. cond (test x) 1 0) (λ x l. refl) r
