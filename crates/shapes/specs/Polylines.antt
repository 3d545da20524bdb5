-- Membership of curves, wires and points (csx's curve.rs), in csx's order of steps. Definitions only.
use Rattle.std.specs.Prelude.{Bool, false, List, [], ◌∷◌, Float}
use Rattle.std.specs.Float.{inf}
use Rattle.std.specs.Float.Ieee.{le}
use Rattle.float.specs.Arithmetic.{◌⊕◌}
use Rattle.float.specs.Rules.{min}
use Rattle.geom.specs.Tolerance.{tol, scale}
use Rattle.geom.specs.Segments.{dist_point_segment}
use Rattle.math.specs.declared.Vec3.{Vec3}
use Rattle.math.specs.Vectors.{at, sub, norm, points}

-- the least of m and the distances from the segments between the points, in their order
unfoldable pub segments : Vec3 → Float → List Vec3 → Float
segments p m [] = m
segments p m (a ∷ []) = m
segments p m (a ∷ b ∷ rest) = segments p (min m (dist_point_segment p a b)) (b ∷ rest)

-- the distance from the points' polyline: infinite from none, and from a single point the distance from it
unfoldable pub dist_from : Vec3 → List Vec3 → Float
dist_from p [] = inf false
dist_from p (a ∷ []) = norm (sub p a)
dist_from p (a ∷ b ∷ rest) = segments p (inf false) (a ∷ b ∷ rest)

-- the same for a list of three numbers a point
unfoldable pub polyline_dist : List Float → Vec3 → Float
polyline_dist list p = dist_from p (points list)

-- at most the radius from the polyline, with a tolerance relative to the largest coordinate and the radius
unfoldable pub inside_wire : List Float → Float → Vec3 → Bool
inside_wire list radius p = le (polyline_dist list p) (radius ⊕ tol (scale list) radius)

-- no point lies in a curve
abbrev pub inside_curve : List Float → Vec3 → Bool
inside_curve list p = false

-- no point lies in a point
abbrev pub inside_point : Vec3 → Vec3 → Bool
inside_point at p = false
