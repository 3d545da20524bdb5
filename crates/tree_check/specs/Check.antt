-- The tree check (document 01, 'Answers, and the questions asked first'): questions 1 to 7, and what is left in the work places. Definitions only.
use Rattle.std.specs.Prelude.{ℕ, ◌≡◌, true, List, length}
use Rattle.lent.specs.Over.{over}
use Rattle.refusal.specs.declared.Refusal.TheVariants as Refusals
use Rattle.refusal.specs.Verdicts.{Verdict, ask, then}
use Rattle.mesh.specs.Mesh.{Mesh}
use Rattle.mesh.specs.WorkPlaces.{ask_room, zeros, work_left}
use Rattle.tree.specs.Tree.{Tree}
use Rattle.tree.specs.steps.TreeTest.{tree_test}

-- question 7: does the lent tree keep the tree rules?
unfoldable pub ask_tree : Mesh → Tree → Verdict
ask_tree m t = ask (tree_test m t) Refusals.Tree

-- questions 1 to 7
unfoldable pub check_verdict : Mesh → Tree → ℕ → Verdict
check_verdict m t work = then (ask_room m work) (ask_tree m t)

-- what `check_tree` promises: questions 1 to 7, and of the work places, lent as ₀ and left as ₁, a 0 for each corner unless 1 to 6 refuse, and the rest as it was
pub record Checks (m : Mesh) (t : Tree) (work₀ : List ℕ) (result : Verdict) (work₁ : List ℕ) : Type 0 where
  pub answer : result ≡ check_verdict m t (length work₀)
  pub work : work₁ ≡ over (work_left true m (length work₀) (check_verdict m t (length work₀)) (zeros m)) work₀
