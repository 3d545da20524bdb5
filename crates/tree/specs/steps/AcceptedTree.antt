-- A mesh with a tree for it, as one value. Definition only.
use Rattle.mesh.specs.Mesh.{Mesh}
use Rattle.tree.specs.Tree.{Tree}

-- a mesh, and a tree for it
pub record AcceptedTree : Type 0 where
  pub mesh : Mesh
  pub tree : Tree
