-- What the steps of the tree check promise. Definitions only.
use Rattle.std.specs.Prelude.{ℕ, ◌≡◌, Bool, true, List, Result, length, drop}
use Rattle.lent.specs.Over.{over}
use Rattle.refusal.specs.declared.Refusal.{Refusal}
use Rattle.refusal.specs.Verdicts.{Verdict, answered}
use Rattle.mesh.specs.Mesh.{Mesh}
use Rattle.mesh.specs.WorkPlaces.{zeros, work_left}
use Rattle.tree.specs.Tree.{Tree}
use Rattle.tree.specs.steps.AcceptedTree.{AcceptedTree}
use Rattle.tree.specs.steps.TreeTest.{tree_test}
use Rattle.tree_check.specs.Check.{ask_tree, check_verdict}

-- what `keeps_rules` promises: whether the tree keeps the rules, and the work places behind those that are needed as they were
pub record Keeps (m : Mesh) (t : Tree) (work₀ : List ℕ) (result : Bool) (work₁ : List ℕ) : Type 0 where
  pub answer : result ≡ tree_test m t
  pub rest : drop (length m.corners) work₁ ≡ drop (length m.corners) work₀

-- what `ask_tree` promises: question 7, and of the work places, lent as ₀ and left as ₁, a 0 for each corner and the rest as it was
pub record AsksTree (m : Mesh) (t : Tree) (work₀ : List ℕ) (result : Verdict) (work₁ : List ℕ) : Type 0 where
  pub answer : result ≡ ask_tree m t
  pub work : work₁ ≡ over (zeros m) work₀

-- what `accept_tree` promises: questions 1 to 7, the mesh with the tree if they pass, and of the work places the same unless 1 to 6 refuse
pub record AcceptsTree (m : Mesh) (t : Tree) (work₀ : List ℕ) (result : Result AcceptedTree Refusal) (work₁ : List ℕ) : Type 0 where
  pub answer : result ≡ answered (check_verdict m t (length work₀)) (record { mesh = m; tree = t })
  pub work : work₁ ≡ over (work_left true m (length work₀) (check_verdict m t (length work₀)) (zeros m)) work₀
