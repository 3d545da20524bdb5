-- What the function that answers a list promises to C (document 01, Answers): the number returned, and how the two buffers are left. Definitions only.
use Rattle.std.specs.Prelude.{ℕ, ◌≡◌, List, Float, length}
use Rattle.lent.specs.Over.{over}
use Rattle.refusal.specs.Verdicts.{returned}
use Rattle.mesh.specs.Mesh.{Mesh}
use Rattle.tree.specs.Tree.{Tree}
use Rattle.polyhedron.specs.PointLists.{list_verdict, list_answer, list_work}

-- the number returned, and of the two buffers, lent as ₀ and left as ₁, what is written in front and the rest as it was
pub record Contains (m : Mesh) (t : Tree) (list : List Float) (work₀ answers₀ : List ℕ) (result : ℕ) (work₁ answers₁ : List ℕ) : Type 0 where
  pub answer : result ≡ returned (list_verdict m t (length work₀) list (length answers₀)) 0
  pub answers : answers₁ ≡ over (list_answer m t (length work₀) list (length answers₀)) answers₀
  pub work : work₁ ≡ over (list_work m t (length work₀) list (length answers₀)) work₀
