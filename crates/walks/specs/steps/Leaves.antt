-- What the walks take for granted, and what the walk over the leaves that pass gives. Definitions only.
use Rattle.std.specs.Prelude.{Option, ℕ, ◌≤◌, ◌<◌, ◌≡◌, List, [], ◌++◌, length, IfSome, IfNone}
use Rattle.std.specs.Borrow.{Bor}
use Rattle.mesh_questions.specs.steps.Accepted.{Accepted}
use Rattle.mesh.specs.steps.Items.{Items}
use Rattle.mesh.specs.Mesh.{Mesh}
use Rattle.tree.specs.Tree.{Tree}
use Rattle.tree.specs.TreeRules.{TreeRules}

-- what the walks take for granted: an accepted mesh, and a tree that keeps the rules
pub record Ready (m : Mesh) (t : Tree) : Type 0 where
  pub accepted : Accepted m.coords m.corners m.ends
  pub rules : TreeRules m t

-- a walk over the triangles of a mesh: those that it still comes to
pub record Walk : Type 0 where
  pub mesh : Mesh
  pub coming : List ℕ

-- what a walk gives next: of the triangles that it still comes to the first ones, which are those of one leaf, one to four; and nothing only where it comes to no more
pub record Gives (w : Walk) (given : Option (Bor (List ℕ))) (w' : Walk) : Type 0 where
  pub mesh : w'.mesh ≡ w.mesh
  pub leaf : IfSome given (λ items. w.coming ≡ items.now ++ w'.coming)
  pub triangles : IfSome given (λ items. Items w.mesh items.now)
  pub places : IfSome given (λ items. (0 < length items.now) × (length items.now ≤ 4))
  pub end : IfNone given (w.coming ≡ [])
