-- `all_ones` meets its contract: the definition goes from the last place down, and the library's from the first place up.
use Rattle.std.proofs.Common.{◌≡◌, ℕ, zero, suc, ◌≤◌, eqb, List, length, get_or, take, refl, ◌∙◌, take_all, arith, add-one, le_refl, rules, tests}
use Rattle.std.proofs.Math.Bool.{and_comm}
use Rattle.std.specs.List.{list_all}
use Rattle.std.proofs.lemmas.Iterator.{YieldsList-from_slice}
use Rattle.std.proofs.lemmas.Iterator.Search.{all_from_yields_List}
use Rattle.std.proofs.lemmas.List.Folds.{list_all_more}
use Rattle.tree.specs.steps.Counting.{all_ones}
use Rattle.tree.proofs.items.all_ones.Goals as goal

all_ones_take : (n : ℕ) (work : List ℕ) → n ≤ length work → all_ones n work ≡ list_all (λ x. eqb x 1) (take n work)
unfolding all_ones
all_ones_take zero work h = refl
all_ones_take (suc n) work h =
    rw (all_ones_take n work (omega arith), ← add-one n, list_all_more (λ x. eqb x 1) work n 0 (omega arith)) (and_comm (eqb (get_or work n 0) 1) (list_all (λ x. eqb x 1) (take n work)))

all_ones_all : (work : List ℕ) → list_all (λ x. eqb x 1) work ≡ all_ones (length work) work
all_ones_all work = rw (all_ones_take (length work) work (le_refl _), take_all (length work) work (le_refl _))

pub returns : goal.returns
returns c =
    let counts = c.args.counts.now in
    all_from_yields_List (λ x. eqb x 1) _ _ c.all.result c.all.ensures.ran (YieldsList-from_slice counts c.iter.ensures.rest) (λ x b q k. search (rules, tests)) ∙ all_ones_all counts
