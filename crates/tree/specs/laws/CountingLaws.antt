-- The laws of counting items: all counts are 1 exactly when each triangle stands once.
use Rattle.std.specs.Prelude.{ℕ, zero, suc, ◌+◌, ◌≤◌, ◌<◌, ◌≡◌, refl, cond, List, [], ◌∷◌, eqb, length, get_or, take, set}
use Rattle.std.proofs.Common.{add-one, arith, ⊎_elim, take-suc, get_or-set_same, get_or-set_other, eq-eqb, ne_eqb}
use Rattle.keys.specs.Sorting.{count}
use Rattle.keys.specs.laws.SortingTheorems.{eq_or_ne}
use Rattle.keys.specs.laws.Permutations.{count_append}
use Rattle.tree.specs.laws.Once.{one_le}
use Rattle.tree.specs.steps.Counting.{once_below, all_ones}

-- all counts are 1 exactly when each number below n stands once
pub all_ones_once : (n : ℕ) (items work : List ℕ) → ((k : ℕ) → k < n → get_or work k 0 ≡ count k items) → all_ones n work ≡ once_below n items
unfolding all_ones once_below
all_ones_once zero items work counts = refl
all_ones_once (suc n) items work counts = rw (counts n (omega arith), all_ones_once n items work (λ k h. counts k (omega arith)))

-- a list has no number more often than places
pub count_le : (k : ℕ) (l : List ℕ) → count k l ≤ length l
unfolding count
count_le k [] = omega arith
count_le k (x ∷ l) = omega (arith, one_le (eqb k x), count_le k l)

-- one item more
pub count_next : (k j : ℕ) (l : List ℕ) → j < length l → count k (take (j + 1) l) ≡ count k (take j l) + cond (eqb k (get_or l j 0)) 1 0
unfolding count
count_next k j l h = rw (add-one j, take-suc l j 0, count_append k (take j l) (get_or l j 0 ∷ [])) (omega arith)

module _ (items work : List ℕ) (n j : ℕ) (h : j < length items) (counts : (k : ℕ) → k < n → get_or work k 0 ≡ count k (take j items)) where
  -- an item below n is counted in its place
  pub counted_in : get_or items j 0 < n → n ≤ length work → (k : ℕ) → k < n → get_or (set work (get_or items j 0) (get_or work (get_or items j 0) 0 + 1)) k 0 ≡ count k (take (j + 1) items)
  counted_in within room k less = ⊎_elim here other (eq_or_ne k (get_or items j 0))
    where
      here : k ≡ get_or items j 0 → get_or (set work (get_or items j 0) (get_or work (get_or items j 0) 0 + 1)) k 0 ≡ count k (take (j + 1) items)
      here e = rw (count_next k j items h, eq-eqb k (get_or items j 0) e, e, get_or-set_same work (get_or items j 0) (get_or work (get_or items j 0) 0 + 1) 0 (omega arith), counts (get_or items j 0) within)

      other : (k ≡ get_or items j 0 → ⊥) → get_or (set work (get_or items j 0) (get_or work (get_or items j 0) 0 + 1)) k 0 ≡ count k (take (j + 1) items)
      other e = rw (count_next k j items h, ne_eqb k (get_or items j 0) e, get_or-set_other work (get_or items j 0) k (get_or work (get_or items j 0) 0 + 1) 0 e) (omega (arith, counts k less))

  -- any other item is not counted
  pub counted_out : n ≤ get_or items j 0 → (k : ℕ) → k < n → get_or work k 0 ≡ count k (take (j + 1) items)
  counted_out past k less =
      let apart : k ≡ get_or items j 0 → ⊥ = λ e. omega arith in
      rw (count_next k j items h, ne_eqb k (get_or items j 0) apart) (omega (arith, counts k less))
