-- A list of k numbers in which each number below k stands once has no other number: the numbers below k stand k times in it, all
-- together, which is as often as there are places.
use Rattle.std.specs.Prelude.{ℕ, zero, suc, ◌+◌, ◌≤◌, ◌<◌, ◌≡◌, refl, Bool, true, false, cond, List, [], ◌∷◌, eqb, ltb, length, get_or}
use Rattle.std.proofs.Common.{eq-or-lt_of_le, arith, ⊎_elim, eq-eqb, ne_eqb, lt-ltb, le-ltb, ltb-true}
use Rattle.keys.specs.Sorting.{count}
use Rattle.keys.specs.laws.SortingTheorems.{le_or_lt}

-- how many numbers of the list are below k
unfoldable below : ℕ → List ℕ → ℕ
below k [] = 0
below k (x ∷ l) = cond (ltb x k) 1 0 + below k l

-- how often the numbers below k stand in the list, all together
unfoldable standing : ℕ → List ℕ → ℕ
standing zero l = 0
standing (suc k) l = count k l + standing k l

-- one number more: whether x is that number, below it or above it
next_one : (k x : ℕ) → ◌≡◌ {A = ℕ} (cond (eqb k x) 1 0 + cond (ltb x k) 1 0) (cond (ltb x (suc k)) 1 0)
next_one k x = ⊎_elim at_least less (le_or_lt k x)
  where
    less : x < k → ◌≡◌ {A = ℕ} (cond (eqb k x) 1 0 + cond (ltb x k) 1 0) (cond (ltb x (suc k)) 1 0)
    less h = rw (ne_eqb k x (λ e. omega arith), lt-ltb x k h, lt-ltb x (suc k) (omega arith)) (omega arith)

    same : k ≡ x → ◌≡◌ {A = ℕ} (cond (eqb k x) 1 0 + cond (ltb x k) 1 0) (cond (ltb x (suc k)) 1 0)
    same h = rw (eq-eqb k x h, le-ltb x k (omega arith), lt-ltb x (suc k) (omega arith)) (omega arith)

    more : k < x → ◌≡◌ {A = ℕ} (cond (eqb k x) 1 0 + cond (ltb x k) 1 0) (cond (ltb x (suc k)) 1 0)
    more h = rw (ne_eqb k x (λ e. omega arith), le-ltb x k (omega arith), le-ltb x (suc k) (omega arith)) (omega arith)

    at_least : k ≤ x → ◌≡◌ {A = ℕ} (cond (eqb k x) 1 0 + cond (ltb x k) 1 0) (cond (ltb x (suc k)) 1 0)
    at_least h = ⊎_elim same more (eq-or-lt_of_le h)

-- a number that is put in front stands once among the numbers below k if it is one of them
standing_cons : (k x : ℕ) (l : List ℕ) → standing k (x ∷ l) ≡ cond (ltb x k) 1 0 + standing k l
unfolding count standing
standing_cons zero x l = rw (le-ltb x 0 (omega arith)) (omega arith)
standing_cons (suc k) x l = omega (arith, next_one k x, standing_cons k x l)

standing_nothing : (k : ℕ) → standing k [] ≡ 0
unfolding count standing
standing_nothing zero = refl
standing_nothing (suc k) = omega (arith, standing_nothing k)

standing_below : (k : ℕ) (l : List ℕ) → standing k l ≡ below k l
unfolding below
standing_below k [] = standing_nothing k
standing_below k (x ∷ l) = omega (arith, standing_cons k x l, standing_below k l)

-- if each number below k stands once, they stand k times
standing_once : (k : ℕ) (l : List ℕ) → ((j : ℕ) → j < k → count j l ≡ 1) → standing k l ≡ k
unfolding standing
standing_once zero l once = refl
standing_once (suc k) l once = omega (arith, once k (omega arith), standing_once k l (λ j h. once j (omega arith)))

-- a test counts at most once
pub one_le : (b : Bool) → cond b 1 0 ≤ 1
one_le true = omega arith
one_le false = omega arith

-- a list has at most as many numbers below k as places
below_le : (k : ℕ) (l : List ℕ) → below k l ≤ length l
unfolding below
below_le k [] = omega arith
below_le k (x ∷ l) = omega (arith, one_le (ltb x k), below_le k l)

one_is : (b : Bool) → 1 ≤ cond b 1 0 → b ≡ true
one_is true h = refl
one_is false h = absurd (omega arith)

-- and if it has as many, each number is one of them
below_all : (k : ℕ) (l : List ℕ) → length l ≤ below k l → (i : ℕ) → i < length l → get_or l i 0 < k
unfolding below
below_all k [] all i h = absurd (omega arith)
below_all k (x ∷ l) all zero h = ltb-true x k (one_is (ltb x k) (omega (arith, below_le k l)))
below_all k (x ∷ l) all (suc i) h = below_all k l (omega (arith, one_le (ltb x k))) i (omega arith)

-- where each number below k stands once in a list of k places, every number is below k
pub once_below_lem : (k : ℕ) (l : List ℕ) → length l ≡ k → ((j : ℕ) → j < k → count j l ≡ 1) → (i : ℕ) → i < length l → get_or l i 0 < k
once_below_lem k l long once = below_all k l (omega (arith, standing_below k l, standing_once k l once))
