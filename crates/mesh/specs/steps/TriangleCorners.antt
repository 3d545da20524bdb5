-- What functions over the corners of a triangle take for granted of them. Definitions only.
use Rattle.std.specs.Prelude.{◌+◌, ◌*◌, ◌<◌, ◌≡◌, true, List, Float, length}
use Rattle.math.specs.Vectors.{is_finite}
use Rattle.mesh.specs.declared.Triangle.{Triangle}
use Rattle.mesh.specs.MeshBoxes.{vertex}

-- the corners of a triangle are vertices
pub record Corners (coords : List Float) (t : Triangle) : Type 0 where
  pub a : 3 * t.a + 2 < length coords
  pub b : 3 * t.b + 2 < length coords
  pub c : 3 * t.c + 2 < length coords

-- the corners of a triangle are finite
pub record Finite (coords : List Float) (t : Triangle) : Type 0 where
  pub a : is_finite (vertex coords t.a) ≡ true
  pub b : is_finite (vertex coords t.b) ≡ true
  pub c : is_finite (vertex coords t.c) ≡ true
