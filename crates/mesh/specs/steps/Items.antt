-- What functions over triangle numbers take for granted of them. Definitions only.
use Rattle.std.specs.Prelude.{ℕ, ◌<◌, List, length, get_or}
use Rattle.mesh.specs.Mesh.{Mesh, triangle_count}

-- t is a triangle of the mesh
abbrev pub Item : Mesh → ℕ → Type 0
Item m t = t < triangle_count m

-- each item is
abbrev pub Items : Mesh → List ℕ → Type 0
Items m items = (j : ℕ) → j < length items → Item m (get_or items j 0)
