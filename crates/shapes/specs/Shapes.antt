-- Which rule answers for which shape: csx's `Shape::contains_local` in Cartesian coordinates, and for a box in cylindrical ones its native test (mod.rs).
-- Definitions only.
use Rattle.std.specs.Prelude.{Bool, List, Float}
use Rattle.shapes.specs.BoxShapes.{inside_box, inside_cylindrical_box, inside_multi_box}
use Rattle.shapes.specs.Round.{inside_sphere, inside_spherical_shell, inside_cylinder, inside_cylindrical_shell}
use Rattle.shapes.specs.Polylines.{inside_curve, inside_wire, inside_point}
use Rattle.shapes.specs.Planes.{inside_polygon, inside_lin_poly}
use Rattle.math.specs.declared.Vec3.{Vec3}
use Rattle.shapes.specs.declared.Shape.{Shape}
use Rattle.shapes.specs.declared.Shape.TheVariants.{Box, CylindricalBox, MultiBox, Sphere, SphericalShell, Cylinder, CylindricalShell, Polygon, LinPoly, Curve, Wire, Point}

-- whether p lies in the shape, whose points are in the list
unfoldable pub inside : Shape → List Float → Vec3 → Bool
inside (Box start stop) list p = inside_box start stop p
inside (CylindricalBox start stop) list p = inside_cylindrical_box start stop p
inside MultiBox list p = inside_multi_box list p
inside (Sphere center radius) list p = inside_sphere center radius p
inside (SphericalShell center radius width) list p = inside_spherical_shell center radius width p
inside (Cylinder start stop radius) list p = inside_cylinder start stop radius p
inside (CylindricalShell start stop radius width) list p = inside_cylindrical_shell start stop radius width p
inside (Polygon normal elevation) list p = inside_polygon normal elevation list p
inside (LinPoly normal elevation length) list p = inside_lin_poly normal elevation length list p
inside Curve list p = inside_curve list p
inside (Wire radius) list p = inside_wire list radius p
inside (Point point) list p = inside_point point p
