-- Numbers that are renumbered one to one are the same numbers in some order (`renumbered_reordered`): each stands at least as often among the old ones, which
-- are no more, and then the first can be moved to the front of the old ones, the second behind it, and so on.
use Rattle.std.specs.Prelude.{ℕ, suc, ◌+◌, ◌≤◌, ◌<◌, cond, ◌≡◌, refl, List, [], ◌∷◌, map, eqb, length, get_or}
use Rattle.std.proofs.Common.{arith, ap₂, ⊎_elim}
use Rattle.std.proofs.lemmas.List.{length-map}
use Rattle.keys.specs.Sorting.{count, SameCounts}
use Rattle.lent.specs.Every.{Every}
use Rattle.keys.specs.laws.SortingTheorems.{le_or_lt, eq_or_ne, all_of, all_map, all_mapped, all_counted, count_cons}
use Rattle.keys.specs.laws.Permutations.{count_map}
use Rattle.lent.specs.Reordered.{Reordered, none, keep, exchange, twice}
use Rattle.lent.specs.laws.ReorderedLaws.{reordered_sum, length_reordered, reordered_refl}
use Rattle.mesh.specs.Mesh.{numbers}
use Rattle.tree.specs.laws.NumberLaws.{length_numbers, get_d_numbers, numbers_once}

-- ---- reordered lists

-- each number stands as often
reordered_permuted : {l m : List ℕ} → Reordered l m → SameCounts l m
unfolding count
reordered_permuted r k = reordered_sum (count k) (λ x. cond (eqb k x) 1 0) (λ x l. refl) r

-- a number that stands in a list can be moved to its front
to_front : (x : ℕ) (l : List ℕ) → 0 < count x l → (rest : List ℕ) × Reordered (x ∷ rest) l
to_front x [] h = unfold count in absurd (omega arith)
to_front x (y ∷ l) h =
    ⊎_elim
    (λ e. (l, rw e (reordered_refl (y ∷ l))))
    (λ apart.
    let r = to_front x l (omega (arith, count_cons x y l)) in
    (y ∷ r.0, twice (exchange x y r.0) (keep y r.1)))
    (eq_or_ne x y)

-- a list in which each number stands at least as often, and which is no longer, is the list in some order
counted_reordered : (l m : List ℕ) → ((k : ℕ) → count k l ≤ count k m) → length m ≤ length l → Reordered l m
counted_reordered [] [] often short = none
counted_reordered [] (y ∷ m) often short = absurd (omega arith)
counted_reordered (x ∷ l) m often short =
    let front = to_front x m (omega (arith, often x, count_cons x x l)) in
    let rest = front.0 in
    let long = length_reordered front.1 in
    let more : (k : ℕ) → count k l ≤ count k rest = λ k. omega (arith, often k, reordered_permuted front.1 k, count_cons k x l, count_cons k x rest) in
    twice (keep x (counted_reordered l rest more (omega arith))) front.1

-- ---- the numbers below n

numbers_below : (n : ℕ) → Every (λ v. v < n) (numbers 0 n)
numbers_below n =
    let long = length_numbers 0 n in
    all_of (λ v. v < n) (numbers 0 n) (λ i h. omega (arith, get_d_numbers 0 n i (omega arith)))

-- new numbers below n for the numbers below n, no two the same, are the numbers below n in some order
pub renumbered_reordered : (n : ℕ) (s : ℕ → ℕ) → ((v : ℕ) → v < n → s v < n) → ((v w : ℕ) → v < n → w < n → s v ≡ s w → v ≡ w)
    → Reordered (map s (numbers 0 n)) (numbers 0 n)
renumbered_reordered n s small apart =
    let all = numbers 0 n in
    let below = numbers_below n in
    let Often : ℕ → Type 0 = λ k. count k (map s all) ≤ count k all in
    let once : (v : ℕ) → v < n → count v all ≡ 1 = λ v h. numbers_once 0 n v (omega arith) (omega arith) in
    let new : (v : ℕ) → v < n → Often (s v) = λ v h. omega (arith, count_map s (λ v. v < n) apart v all h below, once v h, once (s v) (small v h)) in
    let each = all_mapped Often s all (all_map (λ v. v < n) (λ v. Often (s v)) all new below) in
    counted_reordered (map s all) all
    (λ k. ⊎_elim (λ absent. omega arith) (all_counted Often (map s all) k each) (le_or_lt (count k (map s all)) 0))
    (omega (arith, length-map all s))

-- a list is what stands at each of its places, place after place
pub map_numbers : {A : Type 0} (f : ℕ → A) (first : ℕ) (l : List A) (d : A) → ((k : ℕ) → k < length l → f (first + k) ≡ get_or l k d) → map f (numbers first (length l)) ≡ l
unfolding numbers
map_numbers f first [] d at = refl
map_numbers f first (x ∷ l) d at =
    let here : first + 0 ≡ first = omega arith in
    let next : (k : ℕ) → first + 1 + k ≡ first + suc k = λ k. omega arith in
    ap₂ ◌∷◌ (rw here at (at 0 (omega arith))) (map_numbers f (first + 1) l d (λ k h. rw (next k) (at (suc k) (omega arith))))
