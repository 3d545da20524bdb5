-- Membership of boxes (csx's basic.rs), in csx's order of tests. Definitions only.
use Rattle.std.specs.Prelude.{Bool, false, ◌&&◌, ◌||◌, List, [], ◌∷◌, Float}
use Rattle.std.specs.Float.Ieee.{le}
use Rattle.geom.specs.Tolerance.{tol, in_range, angle_ok}
use Rattle.math.specs.declared.Vec3.{Vec3}
use Rattle.math.specs.Vectors.{points}

-- each coordinate in its range
unfoldable pub inside_box : Vec3 → Vec3 → Vec3 → Bool
inside_box a b p = in_range p.x a.x b.x && in_range p.y a.y b.y && in_range p.z a.z b.z

-- in cylindrical coordinates: height and radius in their ranges, and the angle in its range or the point on the axis
unfoldable pub inside_cylindrical_box : Vec3 → Vec3 → Vec3 → Bool
inside_cylindrical_box a b p =
    in_range p.z a.z b.z && in_range p.x a.x b.x && (le p.x (tol a.x b.x) || angle_ok p.y a.y b.y)

-- in one of the boxes whose corners are the points two by two
unfoldable pub in_some_box : List Vec3 → Vec3 → Bool
in_some_box [] p = false
in_some_box (a ∷ []) p = false
in_some_box (a ∷ b ∷ rest) p = inside_box a b p || in_some_box rest p

-- in one of the boxes of a list of six numbers a box
unfoldable pub inside_multi_box : List Float → Vec3 → Bool
inside_multi_box boxes p = in_some_box (points boxes) p
