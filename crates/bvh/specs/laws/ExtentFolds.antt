-- The least of floats, or the greatest, in the order of a list. In another order it is the same but for the sign of a zero; and where it is
-- zero, it is the first zero of the list. So from a list in any order the least of the sorted list can be told: `least_settled`; and from its
-- two parts, sorted: `least_parts`.
use Rattle.std.specs.Prelude.{ℕ, ◌≡◌, ◌⊎◌, Bool, false, ◌||◌, eqb, Float}
use Rattle.std.proofs.Math.Path.{refl}
use Rattle.std.proofs.Common.{sym, ap, ◌∙◌, eqb→eq}
use Rattle.std.proofs.Math.Logic.{inl, inr, ⊎_elim}
use Rattle.std.proofs.Math.Bool.{true, not, cond}
use mathlib.Core.List.{List, [], ◌∷◌, ◌++◌}
use Rattle.std.proofs.Math.Dec.{T, T_not, eqb_refl}
use Rattle.std.specs.Float.{inf, binary64}
use Rattle.std.specs.Float.Ieee.{is_nan, of_bits, le, eq, ne}
use Rattle.std.specs.Float.Ieee.Bits.{is_true}
use Rattle.std.specs.Float.Ieee.Fits.{inf-fits}
use Rattle.float.specs.Arithmetic.{zero}
use Rattle.float.specs.Rules as Rules
use Rattle.float.specs.TotalOrder.{order_key}
use Rattle.float.specs.laws.OrderTheorems.{key_injective}
use Rattle.float.specs.laws.Order.{Number, is_zero, Alike, le_refl, le_trans, le_antisym, eq_le, eq_sym, lt_le, lt_not_le, alike_eq, eq_alike}
use Rattle.keys.specs.Sorting.{insert_by, sorted_by, sorted}
use Rattle.lent.specs.Every.{Every}
use Rattle.keys.specs.laws.SortingTheorems.{by_test, le_or_lt, insert_here, insert_past, all_map, all_sorted_by}
use Rattle.keys.specs.laws.Permutations.{all_append, all_split}
use Rattle.mesh.specs.laws.PermutedBoxes.{F64}
use Rattle.bvh.specs.steps.Extent.{pick, first_zero, found_edge, zero_edge, unlike}
use Rattle.bvh.specs.laws.ExtentFirst.{found, NoZero, found_right, found_left, found_either}

-- ---- the order, taken either way

-- a is at most b, or at least b
abbrev before : Bool → Float → Float → Bool
before upper a b = cond upper (le b a) (le a b)

before_refl : (upper : Bool) (x : Float) → Number x → T (before upper x x)
before_refl false x p = le_refl x p
before_refl true x p = le_refl x p

before_trans : (upper : Bool) (x y z : Float) → T (before upper x y) → T (before upper y z) → T (before upper x z)
before_trans false x y z h k = le_trans x y z h k
before_trans true x y z h k = le_trans z y x k h

before_antisym : (upper : Bool) (x y : Float) → T (before upper x y) → T (before upper y x) → T (eq x y)
before_antisym false x y h k = le_antisym x y h k
before_antisym true x y h k = le_antisym x y k h

-- of two numbers one comes before the other
before_turn : (upper : Bool) (x y : Float) → Number x → Number y → T (not (before upper x y)) → T (before upper y x)
before_turn false x y p q h = lt_le y x (rw (lt_not_le y x q p) h)
before_turn true x y p q h = lt_le x y (rw (lt_not_le x y p q) h)

before_eq : (upper : Bool) (x y : Float) → T (eq x y) → T (before upper x y)
before_eq false x y h = eq_le x y h
before_eq true x y h = eq_le y x (eq_sym x y h)

zeros_le : (x y : Float) → T (eq x zero) → T (eq y zero) → T (le x y)
zeros_le x y h k = le_trans x zero y (eq_le x zero h) (eq_le zero y (eq_sym y zero k))

-- zeros come before one another
before_zeros : (upper : Bool) (x y : Float) → T (eq x zero) → T (eq y zero) → T (before upper x y)
before_zeros false x y h k = zeros_le x y h k
before_zeros true x y h k = zeros_le y x k h

self : (a : Float) → Number a → ne a a ≡ false
unfolding ne
self a p = rw (is_true (eq a a) (le_antisym a a (le_refl a p) (le_refl a p)))

flip : (t : Bool) (a b : Float) → cond (not t || false) b a ≡ cond t a b
flip true a b = refl
flip false a b = refl

-- of two numbers the one that comes before the other, and the left one of equals
pick_is : (upper : Bool) (a b : Float) → Number a → Number b → pick upper a b ≡ cond (before upper a b) a b
unfolding pick Rules.min Rules.max
pick_is false a b p q = rw (self a p, lt_not_le b a q p) (flip (le a b) a b)
pick_is true a b p q = rw (self a p, lt_not_le a b p q) (flip (le b a) a b)

pick_left : (upper : Bool) (a b : Float) → Number a → Number b → before upper a b ≡ true → pick upper a b ≡ a
pick_left upper a b p q h = rw (pick_is upper a b p q, h)

pick_right : (upper : Bool) (a b : Float) → Number a → Number b → before upper a b ≡ false → pick upper a b ≡ b
pick_right upper a b p q h = rw (pick_is upper a b p q, h)

-- ---- zeros

-- what equals a zero is zero
eq_zero : (x y : Float) → T (eq x y) → T (eq y zero) → T (eq x zero)
eq_zero x y h k = le_antisym x zero (le_trans x y zero (eq_le x y h) (eq_le y zero k)) (le_trans zero y x (eq_le zero y (eq_sym y zero k)) (eq_le y x (eq_sym x y h)))

zero_eq : (x : Float) → Number x → T (is_zero x) → T (eq x zero)
zero_eq x p z = alike_eq p (inr (z, unfold of_bits in tt))

-- what differs in the sign of a zero at most is the same where it is not zero
not_zero : {x y : Float} → Number y → eq y zero ≡ false → Alike x y → x ≡ y
not_zero p n (inl e) = e
not_zero {x} {y} p n (inr z) = absurd (rw n at (zero_eq y p z.1))

infinity_f64 : (s : Bool) → F64 (inf s)
unfolding is_nan
infinity_f64 s = record { number = tt; fit = inf-fits binary64 s }

infinity_not_zero : (s : Bool) → T (not (eq (inf s) zero))
unfolding eq of_bits
infinity_not_zero s = tt

-- ---- sorting keeps the items

insert_back : (P : ℕ → Type 0) (t : ℕ) (l : List ℕ) → Every P (insert_by (λ x. x) t l) → P t × Every P l
unfolding insert_by
insert_back P t [] a = (a.0, tt)
insert_back P t (s ∷ rest) a =
    ⊎_elim
    (λ k. let b = rw (insert_here (λ x. x) t s rest k) at a in (b.0, b.1))
    (λ k. let b = rw (insert_past (λ x. x) t s rest k) at a in let more = insert_back P t rest b.1 in (more.0, (b.0, more.1)))
    (le_or_lt t s)

-- what holds of every sorted item holds of every item
all_unsorted : (P : ℕ → Type 0) (l : List ℕ) → Every P (sorted l) → Every P l
unfolding sorted_by
all_unsorted P [] a = tt
all_unsorted P (t ∷ rest) a = let b = insert_back P t (sorted rest) a in (b.0, all_unsorted P rest b.1)

-- ---- over a list

-- the floats e of the items that count are numbers of the format f64, and a zero counts
pub record Floats (counts : ℕ → Bool) (e : ℕ → Float) : Type 0 where
  pub f64 : (t : ℕ) → T (counts t) → F64 (e t)
  pub zeros : (t : ℕ) → T (eq (e t) zero) → T (counts t)

module _ (upper : Bool) (counts : ℕ → Bool) (e : ℕ → Float) where
  -- v, and the float of one item more, if it counts
  unfoldable pub next : Float → ℕ → Float
  next v t = cond (counts t) (pick upper v (e t)) v

  -- v, and the floats of the items of a list in its order
  unfoldable pub picked : Float → List ℕ → Float
  picked v [] = v
  picked v (t ∷ rest) = picked (next v t) rest

  -- the least, or the greatest, of the floats of a list's items
  abbrev pub least : List ℕ → Float
  least l = picked (inf upper) l

  module _ (given : Floats counts e) where
    -- one item more changes nothing
    abbrev Stays : Float → ℕ → Type 0
    Stays v t = (next v t ≡ v) × (T (counts t) → T (before upper v (e t)))

    -- it is taken, since v does not come before it
    abbrev Taken : Float → ℕ → Type 0
    Taken v t = (next v t ≡ e t) × T (counts t) × T (not (before upper v (e t)))

    next_cases : (v : Float) (t : ℕ) → F64 v → Stays v t ⊎ Taken v t
    unfolding next
    next_cases v t p =
        by_test (counts t)
        (λ k. by_test (before upper v (e t)) (λ h. inl (rw (k, is k, h), λ c. rw h tt)) (λ h. inr (rw (k, is k, h), rw k tt, rw h tt)))
        (λ k. inl (rw k, λ c. absurd (rw k at c)))
      where
        is : counts t ≡ true → pick upper v (e t) ≡ cond (before upper v (e t)) v (e t)
        is k = pick_is upper v (e t) p.number (given.f64 t (rw k tt)).number

    next_f64 : (v : Float) (t : ℕ) → F64 v → F64 (next v t)
    next_f64 v t p = ⊎_elim (λ w. rw w.0 p) (λ w. rw w.0 (given.f64 t w.1)) (next_cases v t p)

    next_before : (v : Float) (t : ℕ) → F64 v → T (before upper (next v t) v)
    next_before v t p =
        ⊎_elim
        (λ w. rw w.0 (before_refl upper v p.number))
        (λ w. rw w.0 (before_turn upper v (e t) p.number (given.f64 t w.1).number w.2))
        (next_cases v t p)

    next_before_item : (v : Float) (t : ℕ) → F64 v → T (counts t) → T (before upper (next v t) (e t))
    next_before_item v t p k =
        ⊎_elim (λ w. rw w.0 (w.1 k)) (λ w. rw w.0 (before_refl upper (e t) (given.f64 t k).number)) (next_cases v t p)

    picked_f64 : (v : Float) (l : List ℕ) → F64 v → F64 (picked v l)
    unfolding picked
    picked_f64 v [] p = p
    picked_f64 v (t ∷ rest) p = picked_f64 (next v t) rest (next_f64 v t p)

    -- c comes before the floats that count
    abbrev Bound : Float → List ℕ → Type 0
    Bound c l = Every (λ t. T (counts t) → T (before upper c (e t))) l

    -- what comes before the result comes before every float
    picked_bound : (c v : Float) (l : List ℕ) → F64 v → T (before upper c (picked v l)) → T (before upper c v) × Bound c l
    unfolding picked
    picked_bound c v [] p h = (h, tt)
    picked_bound c v (t ∷ rest) p h =
        let more = picked_bound c (next v t) rest (next_f64 v t p) h in
        (before_trans upper c (next v t) v more.0 (next_before v t p), (λ k. before_trans upper c (next v t) (e t) more.0 (next_before_item v t p k), more.1))

    -- and the other way round
    bound_picked : (c v : Float) (l : List ℕ) → F64 v → T (before upper c v) → Bound c l → T (before upper c (picked v l))
    unfolding picked
    bound_picked c v [] p h b = h
    bound_picked c v (t ∷ rest) p h b =
        bound_picked c (next v t) rest (next_f64 v t p) (⊎_elim (λ w. rw w.0 h) (λ w. rw w.0 (b.0 w.1)) (next_cases v t p)) b.1

    -- the result comes before every float
    picked_first : (v : Float) (l : List ℕ) → F64 v → T (before upper (picked v l) v) × Bound (picked v l) l
    picked_first v l p = picked_bound (picked v l) v l p (before_refl upper (picked v l) (picked_f64 v l p).number)

    -- a zero stays if the result is zero
    zero_stays : (v : Float) (l : List ℕ) → F64 v → T (eq v zero) → T (eq (picked v l) zero) → picked v l ≡ v
    unfolding picked
    zero_stays v [] p z h = refl
    zero_stays v (t ∷ rest) p z h =
        ⊎_elim
        (λ w. rw w.0 (zero_stays v rest p z (rw w.0 at h)))
        (λ w. absurd (passed (given.f64 t w.1) w.2 (rw w.0 at h)))
        (next_cases v t p)
      where
        -- what v does not come before cannot end in a zero
        passed : F64 (e t) → T (not (before upper v (e t))) → T (eq (picked (e t) rest) zero) → ⊥
        passed q n end =
            T_not (before upper v (e t)) n
            (before_trans upper v (picked (e t) rest) (e t) (before_zeros upper v (picked (e t) rest) z end) (picked_first (e t) rest q).0)

    -- from what is not zero on, a result that is zero is the first zero of the list
    picked_zero : (v : Float) (l : List ℕ) → F64 v → T (not (eq v zero)) → T (eq (picked v l) zero) → picked v l ≡ zero_edge e l
    unfolding picked first_zero
    picked_zero v [] p n h = absurd (T_not (eq v zero) n h)
    picked_zero v (t ∷ rest) p n h =
        by_test (eq (e t) zero)
        (λ z. rw z (⊎_elim (λ w. absurd (kept (rw z tt) w)) (λ w. rw w.0 (zero_stays (e t) rest (given.f64 t w.1) (rw z tt) (rw w.0 at h))) (next_cases v t p)))
        (λ z. rw z (picked_zero (next v t) rest (next_f64 v t p) (⊎_elim (λ w. rw w.0 n) (λ w. rw (w.0, z) tt) (next_cases v t p)) h))
      where
        -- beside a zero that is not taken v would be zero
        kept : T (eq (e t) zero) → Stays v t → ⊥
        kept z w =
            let back = before_trans upper (e t) (picked v rest) v (before_zeros upper (e t) (picked v rest) z (rw w.0 at h)) (picked_first v rest p).0 in
            T_not (eq v zero) n (eq_zero v (e t) (before_antisym upper v (e t) (w.1 (given.zeros t z)) back) z)

    least_f64 : (l : List ℕ) → F64 (least l)
    least_f64 l = picked_f64 (inf upper) l (infinity_f64 upper)

    -- of sorted items it is the same but for the sign of a zero
    pub least_alike : (items : List ℕ) → Alike (least (sorted items)) (least items)
    least_alike items =
        let start = infinity_f64 upper in
        let a = least (sorted items) in
        let b = least items in
        let first = picked_first (inf upper) (sorted items) start in
        let other = picked_first (inf upper) items start in
        eq_alike binary64 a b (least_f64 (sorted items)).fit (least_f64 items).fit
        (before_antisym upper a b
        (bound_picked a (inf upper) items start first.0 (all_unsorted _ items first.1))
        (bound_picked b (inf upper) (sorted items) start other.0 (all_sorted_by _ (λ x. x) items other.1)))

    first_zero_lem : (l : List ℕ) → T (eq (least l) zero) → least l ≡ zero_edge e l
    first_zero_lem l z = picked_zero (inf upper) l (infinity_f64 upper) (infinity_not_zero upper) z

    -- a zero is the first of the list
    pub least_zero : (l : List ℕ) → T (is_zero (least l)) → least l ≡ zero_edge e l
    least_zero l z = first_zero_lem l (zero_eq (least l) (least_f64 l).number z)

    -- of sorted items it is the same if it is not zero, and otherwise the first zero
    pub least_settled : (items : List ℕ) → least (sorted items) ≡ cond (eq (least items) zero) (zero_edge e (sorted items)) (least items)
    least_settled items =
        let equal = alike_eq (least_f64 (sorted items)).number (least_alike items) in
        by_test (eq (least items) zero)
        (λ z. rw z (first_zero_lem (sorted items) (eq_zero (least (sorted items)) (least items) equal (rw z tt))))
        (λ z. rw z (not_zero (least_f64 items).number z (least_alike items)))

    -- what comes before the result of sorted items comes before the float of each item
    below : (c : Float) (l : List ℕ) → T (before upper c (least (sorted l))) → T (before upper c (inf upper)) × Bound c l
    below c l h = let p = picked_bound c (inf upper) (sorted l) (infinity_f64 upper) h in (p.0, all_unsorted _ l p.1)

    -- and the other way round
    above : (c : Float) (l : List ℕ) → T (before upper c (inf upper)) → Bound c l → T (before upper c (least (sorted l)))
    above c l h b = bound_picked c (inf upper) (sorted l) (infinity_f64 upper) h (all_sorted_by _ (λ x. x) l b)

    -- where the result does not come before a zero, no item has a zero
    no_zero_lem : (l : List ℕ) (r : Float) → T (eq r zero) → before upper (least (sorted l)) r ≡ false → NoZero e l
    no_zero_lem l r z h =
        let c = least (sorted l) in
        all_map (λ t. T (counts t) → T (before upper c (e t))) (λ t. eq (e t) zero ≡ false) l
        (λ t b. by_test (eq (e t) zero) (λ w. absurd (rw h at (before_trans upper c (e t) r (b (given.zeros t (rw w tt))) (before_zeros upper (e t) r (rw w tt) z)))) (λ w. w))
        (below c l (before_refl upper c (least_f64 (sorted l)).number)).1

    module _ (a b : List ℕ) where
      abbrev whole : Float
      whole = least (sorted (a ++ b))

      abbrev left : Float
      left = least (sorted a)

      abbrev right : Float
      right = least (sorted b)

      whole_before : T (before upper whole left) × T (before upper whole right)
      whole_before =
          let p = below whole (a ++ b) (before_refl upper whole (least_f64 (sorted (a ++ b))).number) in
          let parts = all_split _ a b p.1 in
          (above whole a p.0 parts.0, above whole b p.0 parts.1)

      before_whole : (c : Float) → T (before upper c left) → T (before upper c right) → T (before upper c whole)
      before_whole c h k = let p = below c a h in let q = below c b k in above c (a ++ b) p.0 (all_append _ a b p.1 q.1)

      -- the result of the whole is the one of a part that comes before the other, if that is the first zero where it is zero
      whole_is : (v : Float) → F64 v → T (before upper v left) → T (before upper v right) → T (before upper whole v) → (T (eq v zero) → v ≡ (found_edge e (found e (a ++ b)))) → whole ≡ v
      whole_is v p h k w first =
          let same = before_antisym upper whole v w (before_whole v h k) in
          by_test (eq v zero)
          (λ z. first_zero_lem (sorted (a ++ b)) (eq_zero whole v same (rw z tt)) ∙ sym (first (rw z tt)))
          (λ n. not_zero p.number n (eq_alike binary64 whole v (least_f64 (sorted (a ++ b))).fit p.fit same))

      -- the result of the whole from those of its parts: it can be neither only if they are zeros of unlike sign
      pub least_parts : whole ≡ cond (unlike left right) (found_edge e (found e (a ++ b))) (pick upper left right)
      unfolding unlike
      least_parts =
          by_test (before upper left right)
          (λ h. by_test (before upper right left) (λ k. both h k) (λ k. rw (apart (λ z. rw k at (before_eq upper right left (eq_sym left right z))), pick_left upper left right p.number q.number h) (only_left h k)))
          (λ h. rw (apart (λ z. rw h at (before_eq upper left right z)), pick_right upper left right p.number q.number h) (only_right h))
        where
          p : F64 left
          p = least_f64 (sorted a)

          q : F64 right
          q = least_f64 (sorted b)

          apart : (T (eq left right) → ⊥) → eq left right ≡ false
          apart f = by_test (eq left right) (λ z. absurd (f (rw z tt))) (λ z. z)

          only_left : before upper left right ≡ true → before upper right left ≡ false → whole ≡ left
          only_left h k =
              whole_is left p (before_refl upper left p.number) (rw h tt) whole_before.0
              (λ z. first_zero_lem (sorted a) z ∙ ap (found_edge e) (sym (found_left e a b (no_zero_lem b left z k))))

          only_right : before upper left right ≡ false → whole ≡ right
          only_right h =
              whole_is right q (before_turn upper left right p.number q.number (rw h tt)) (before_refl upper right q.number) whole_before.1
              (λ z. first_zero_lem (sorted b) z ∙ ap (found_edge e) (sym (found_right e a b (no_zero_lem a right z h))))

          one : left ≡ right → whole ≡ left
          one same =
              let self_before = before_refl upper left p.number in
              whole_is left p self_before (rw (← same) self_before) whole_before.0
              (λ z. ⊎_elim (λ w. first_zero_lem (sorted a) z ∙ ap (found_edge e) (sym w)) (λ w. same ∙ first_zero_lem (sorted b) (rw same at z) ∙ ap (found_edge e) (sym w)) (found_either e a b))

          both : before upper left right ≡ true → before upper right left ≡ true → whole ≡ cond (unlike left right) (found_edge e (found e (a ++ b))) (pick upper left right)
          both h k =
              let equal = before_antisym upper left right (rw h tt) (rw k tt) in
              by_test (eqb (order_key left) (order_key right))
              (λ y. rw (is_true (eq left right) equal, y, pick_left upper left right p.number q.number h) (one (key_injective left right p.fit q.fit p.number q.number (eqb→eq _ _ (rw y tt)))))
              (λ y. rw (is_true (eq left right) equal, y) (first_zero_lem (sorted (a ++ b)) (zero_whole equal y)))
            where
              zero_whole : T (eq left right) → eqb (order_key left) (order_key right) ≡ false → T (eq whole zero)
              zero_whole equal y =
                  let z = ⊎_elim (λ same. let k : T (eqb (order_key left) (order_key right)) = rw same (eqb_refl (order_key right)) in absurd (rw y at k)) (λ z. zero_eq left p.number z.0) (eq_alike binary64 left right p.fit q.fit equal) in
                  eq_zero whole left (before_antisym upper whole left whole_before.0 (before_whole left (before_refl upper left p.number) (rw h tt))) z
