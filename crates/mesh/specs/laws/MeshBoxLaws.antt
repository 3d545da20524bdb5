-- A triangle's own box is that of its corners' points, and a loop over the vertices computes the mesh's box.
use Rattle.std.specs.Prelude.{◌≡◌, refl, List, Float}
use Rattle.math.specs.steps.Corners as Corners
use Rattle.mesh.specs.declared.Triangle.{Triangle}
use Rattle.mesh.specs.MeshBoxes.{corner_points, triangle_box}
use Rattle.mesh.specs.steps.TriangleCorners.{Finite}

-- so are the points that they are
pub points_finite : (coords : List Float) (t : Triangle) → Finite coords t → Corners.Finite (corner_points coords t)
points_finite coords t f = record { a = f.a; b = f.b; c = f.c }

-- whose box is the triangle's own
pub points_box : (coords : List Float) (t : Triangle) → Corners.own_box (corner_points coords t) ≡ triangle_box coords t
unfolding Corners.own_box triangle_box
points_box coords t = refl
