-- The laws of numbers that follow one another, and what they say of a tree's items: the items are the triangles in some order.
use Rattle.std.specs.Prelude.{ℕ, zero, suc, ◌+◌, ◌≤◌, ◌<◌, ◌≡◌, refl, List, length, get_or}
use Rattle.std.proofs.Common.{arith, sym, ◌∙◌, ⊎_elim}
use Rattle.keys.specs.Sorting.{count, SameCounts}
use Rattle.keys.specs.laws.SortingTheorems.{le_or_lt, all_of, all_counted, count_cons}
use Rattle.tree.specs.laws.Once.{once_below_lem}
use Rattle.mesh.specs.Mesh.{Mesh, triangle_count, numbers, all_triangles}
use Rattle.tree.specs.Tree.{Tree, item_at}
use Rattle.tree.specs.TreeRules.{TreeRules}

pub length_numbers : (first n : ℕ) → length (numbers first n) ≡ n
unfolding numbers
length_numbers first zero = refl
length_numbers first (suc n) = omega (arith, length_numbers (first + 1) n)

pub get_d_numbers : (first n j : ℕ) → j < n → get_or (numbers first n) j 0 ≡ first + j
unfolding numbers
get_d_numbers first zero j h = absurd (omega arith)
get_d_numbers first (suc n) zero h = omega arith
get_d_numbers first (suc n) (suc j) h = get_d_numbers (first + 1) n j (omega arith) ∙ omega arith

-- of the numbers from `first` on each counts once, and none before
numbers_none : (first n k : ℕ) → k < first → count k (numbers first n) ≡ 0
unfolding numbers count
numbers_none first zero k h = refl
numbers_none first (suc n) k h = omega (arith, count_cons k first (numbers (first + 1) n), numbers_none (first + 1) n k (omega arith))

pub numbers_once : (first n k : ℕ) → first ≤ k → k < first + n → count k (numbers first n) ≡ 1
unfolding numbers
numbers_once first zero k low high = absurd (omega arith)
numbers_once first (suc n) k low high =
    let here = count_cons k first (numbers (first + 1) n) in
    ⊎_elim
    (λ le. omega (arith, numbers_none (first + 1) n k (omega arith)))
    (λ lt. omega (arith, numbers_once (first + 1) n k (omega arith) (omega arith)))
    (le_or_lt k first)

-- a number that is not below n does not count where n numbers are those below n
beyond : (n : ℕ) (l : List ℕ) (k : ℕ) → length l ≡ n → ((j : ℕ) → j < n → count j l ≡ 1) → n ≤ k → count k l ≡ 0
beyond n l k long once h = ⊎_elim (λ none. omega arith) some (le_or_lt (count k l) 0)
  where
    some : 0 < count k l → count k l ≡ 0
    some more =
        let less : k < n = all_counted (λ j. j < n) l k (all_of (λ j. j < n) l (once_below_lem n l long once)) more in
        absurd (omega arith)

-- lists of n numbers in each of which each number below n stands once are permutations of one another
pub once_permuted : (n : ℕ) (l m : List ℕ) → length l ≡ n → ((j : ℕ) → j < n → count j l ≡ 1) → length m ≡ n → ((j : ℕ) → j < n → count j m ≡ 1) → SameCounts l m
once_permuted n l m long once long' once' k = ⊎_elim (λ h. beyond n l k long once h ∙ sym (beyond n m k long' once' h)) (λ h. once k h ∙ sym (once' k h)) (le_or_lt n k)

-- the items of a tree that keeps the rules are the triangles in some order
pub items_permuted : (m : Mesh) (t : Tree) → TreeRules m t → SameCounts t.items (all_triangles m)
items_permuted m t rules =
    let n = triangle_count m in
    once_permuted n t.items (numbers 0 n) rules.items rules.once (length_numbers 0 n) (λ j h. numbers_once 0 n j (omega arith) (omega arith))

-- and each is the number of a triangle
pub items_below : (m : Mesh) (t : Tree) → TreeRules m t → (k : ℕ) → k < triangle_count m → item_at t k < triangle_count m
unfolding item_at
items_below m t rules k h = once_below_lem (triangle_count m) t.items rules.items rules.once k (rw rules.items h)
