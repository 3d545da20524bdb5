-- Items counted in the work places: place k holds how often triangle k stands among the items. Definitions only.
use Rattle.std.specs.Prelude.{ℕ, zero, suc, ◌<◌, ◌≡◌, Bool, true, ◌&&◌, List, eqb, length, get_or, drop}
use Rattle.keys.specs.Sorting.{count}

-- the first n places hold 0
abbrev pub Zero : ℕ → List ℕ → Type 0
Zero n work = (k : ℕ) → k < n → get_or work k 0 ≡ 0

-- what counting leaves in the work places, lent as ₀: the counts in the first n, and the rest as it was
pub record Counted (items : List ℕ) (n : ℕ) (work₀ work : List ℕ) : Type 0 where
  pub counts : (k : ℕ) → k < n → get_or work k 0 ≡ count k items
  pub rest : drop n work ≡ drop n work₀

-- whether each of the numbers below k stands once in the list
unfoldable pub once_below : ℕ → List ℕ → Bool
once_below zero items = true
once_below (suc k) items = eqb (count k items) 1 && once_below k items

-- what `items_once` promises: whether there are n items and each number below n stands once among them, and the places from n on as they were
pub record CountsOnce (items : List ℕ) (n : ℕ) (work₀ : List ℕ) (result : Bool) (work : List ℕ) : Type 0 where
  pub answer : result ≡ (eqb (length items) n && once_below n items)
  pub rest : drop n work ≡ drop n work₀

-- whether each of the first n places holds 1
unfoldable pub all_ones : ℕ → List ℕ → Bool
all_ones zero work = true
all_ones (suc n) work = eqb (get_or work n 0) 1 && all_ones n work
