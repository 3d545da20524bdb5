-- What the answers to the points of a small mesh ask for. Definitions only.
use Rattle.std.specs.Prelude.{ℕ, ◌*◌, ◌≤◌, ◌≡◌, List, Float, length}
use Rattle.refusal.specs.Verdicts.{Passed}
use Rattle.mesh.specs.Mesh.{Mesh}
use Rattle.mesh_questions.specs.MeshQuestions.{ask_mesh}
use Rattle.tree.specs.Tree.{stride}
use Rattle.polyhedron.specs.PointLists.{ask_list}

-- at most 512 triangles and points, and points that 8 and 9 let pass with so many places for answers
pub record Few (m : Mesh) (points : List Float) (places : ℕ) : Type 0 where
  pub corners : length m.corners ≤ 1536
  pub ends : length m.corners ≡ 3 * length m.ends
  pub few : places ≤ 512
  pub list : ask_list points places ≡ Passed

-- and a mesh that 1 to 5 let pass
pub record Small (m : Mesh) (points : List Float) (places : ℕ) : Type 0 where
  pub few : Few m points places
  pub accepted : ask_mesh m.coords m.corners m.ends ≡ Passed

-- room for the tree of 512 triangles, with up to as many nodes, and for their edge keys
pub record Scratch (boxes nodes items work : ℕ) : Type 0 where
  pub for_boxes : 3072 ≤ boxes
  pub for_nodes : stride * 512 ≤ nodes
  pub for_items : 512 ≤ items
  pub for_work : 1536 ≤ work
