-- Document 01: 'Reordering moves each face whole, its corners in their order. Renumbering permutes all vertex numbers, unused ones too; coordinates and
-- corners follow.' Definitions only.
use Rattle.std.specs.Prelude.{ℕ, ◌+◌, ◌/◌, ◌<◌, ◌≡◌, length}
use mathlib.Core.List.{List, [], ◌∷◌, map, flatten}
use Rattle.lent.specs.Reordered.{Reordered}
use Rattle.mesh_questions.specs.Faces.{faces}
use Rattle.mesh.specs.MeshBoxes.{vertex}
use Rattle.mesh.specs.Mesh.{Mesh}

-- how many vertices a mesh has
abbrev pub vertex_count : Mesh → ℕ
vertex_count m = length m.coords / 3

-- where faces end that stand one after another from place `start` on
unfoldable pub ends_of : ℕ → List (List ℕ) → List ℕ
ends_of start [] = []
ends_of start (face ∷ rest) = (start + length face) ∷ ends_of (start + length face) rest

-- m' is m with its faces reordered and its vertices renumbered
pub record Rewritten (m m' : Mesh) : Type 0 where
  -- the new number of each vertex: a number below the vertex count, and no two vertices have the same
  pub new : ℕ → ℕ
  pub below : (v : ℕ) → v < vertex_count m → new v < vertex_count m
  pub apart : (v w : ℕ) → v < vertex_count m → w < vertex_count m → new v ≡ new w → v ≡ w
  -- the coordinate list is as long as it was, and vertex v stands at its new number
  pub long : length m'.coords ≡ length m.coords
  pub moved : (v : ℕ) → v < vertex_count m → vertex m'.coords (new v) ≡ vertex m.coords v
  -- the faces in their new order
  pub order : List (List ℕ)
  pub reordered : Reordered (faces m.corners m.ends) order
  -- face after face the corners with their new numbers, and where each face ends
  pub corners : m'.corners ≡ flatten (map (map new) order)
  pub ends : m'.ends ≡ ends_of 0 order
