-- A lent mesh as one value, and how many triangles it has (document 01, Room). Definitions only.
use Rattle.std.specs.Prelude.{ℕ, ◌-◌, ◌*◌, List, Float, length}

-- the lent lists of a mesh
pub record Mesh : Type 0 where
  pub coords : List Float
  pub corners : List ℕ
  pub ends : List ℕ

abbrev pub mesh : List Float → List ℕ → List ℕ → Mesh
mesh coords corners ends = record { coords = coords; corners = corners; ends = ends }

-- document 01's T, how many triangles the mesh has: corners minus two per face
abbrev pub triangle_count : Mesh → ℕ
triangle_count m = length m.corners - 2 * length m.ends
