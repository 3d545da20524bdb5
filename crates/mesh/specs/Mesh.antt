-- The triangles of a mesh by number, and boxes joined from theirs (document 01, Mesh rule and builder rule). Definitions only.
use Rattle.std.specs.Prelude.{ℕ, zero, suc, ◌+◌, List, [], ◌∷◌, get_or}
pub use Rattle.mesh_questions.specs.Mesh.{Mesh, mesh, triangle_count}
use Rattle.math.specs.declared.BoundingBox.{BoundingBox}
use Rattle.math.specs.declared.CornerPoints.{CornerPoints}
use Rattle.math.specs.BoundingBoxes.{empty, join}
use Rattle.mesh.specs.declared.Triangle.{Triangle}
use Rattle.mesh.specs.Triangles.{triangle, triangles}
use Rattle.mesh.specs.MeshBoxes as MeshBoxes
use Rattle.mesh.specs.MeshBoxes.{triangle_box}

-- triangle t
abbrev pub triangle_at : Mesh → ℕ → Triangle
triangle_at m t = get_or (triangles m.corners m.ends) t (triangle 0 0 0)

-- its corners
abbrev pub corner_points : Mesh → ℕ → CornerPoints
corner_points m t = MeshBoxes.corner_points m.coords (triangle_at m t)

-- the own box of triangle t
unfoldable pub own_box : Mesh → ℕ → BoundingBox
own_box m t = triangle_box m.coords (triangle_at m t)

-- a box joined with the own boxes of triangles in their order
unfoldable pub join_all : Mesh → BoundingBox → List ℕ → BoundingBox
join_all m b [] = b
join_all m b (t ∷ rest) = join_all m (join b (own_box m t)) rest

-- the own boxes of triangles joined in their order, starting with the first one's
unfoldable pub node_box : Mesh → List ℕ → BoundingBox
node_box m [] = empty
node_box m (t ∷ rest) = join_all m (own_box m t) rest

-- n numbers from `first` on
unfoldable pub numbers : ℕ → ℕ → List ℕ
numbers first zero = []
numbers first (suc n) = first ∷ numbers (first + 1) n

-- the numbers of all triangles, ascending
abbrev pub all_triangles : Mesh → List ℕ
all_triangles m = numbers 0 (triangle_count m)
