-- csx's `point_in_polygon` (geom.rs): even-odd, with points on an edge inside. Definitions only.
use Rattle.std.specs.Prelude.{Bool, true, false, cond, ℕ, ◌+◌, ◌*◌, List, [], ◌∷◌, get_or, Float}
use Rattle.std.specs.Float.{nan}
use Rattle.std.specs.Float.Ieee.{unlike, le, lt}
use Rattle.float.specs.Arithmetic.{◌⊕◌, ◌⊖◌, ◌⊗◌, ◌⊘◌}
use Rattle.geom.specs.Tolerance.{tol_of, scale}
use Rattle.geom.specs.Segments.{dist_point_segment2d}
use Rattle.geom.specs.declared.Point2.{Point2}

-- the point with these coordinates
abbrev pub point2 : Float → Float → Point2
point2 u v = record { u = u; v = v }

-- the numbers of a list two by two
unfoldable pub points2 : List Float → List Point2
points2 [] = []
points2 (u ∷ []) = []
points2 (u ∷ v ∷ rest) = point2 u v ∷ points2 rest

-- whether the edge from i to j crosses the height of p, beyond p
unfoldable pub crosses : Point2 → Point2 → Point2 → Bool
crosses p i j =
    cond
    (unlike (lt p.v i.v) (lt p.v j.v))
    (lt p.u (i.u ⊕ (p.v ⊖ i.v) ⊗ (j.u ⊖ i.u) ⊘ (j.v ⊖ i.v)))
    false

-- from vertex j on over the vertices that follow: p on an edge is inside; else each crossing turns the answer round
unfoldable pub around : Point2 → Float → Point2 → Bool → List Point2 → Bool
around p eps j inside [] = inside
around p eps j inside (i ∷ rest) =
    cond (le (dist_point_segment2d p i j) eps) true (around p eps i (unlike inside (crosses p i j)) rest)

-- the last of a list that begins with a
unfoldable pub last : Point2 → List Point2 → Point2
last a [] = a
last a (b ∷ rest) = last b rest

-- round the polygon, from the edge between the last vertex and the first
unfoldable pub in_polygon : Point2 → Float → List Point2 → Bool
in_polygon p eps [] = false
in_polygon p eps (a ∷ rest) = around p eps (last a rest) false (a ∷ rest)

-- whether p lies in the polygon whose vertices are the list's numbers two by two
unfoldable pub point_in_polygon : Point2 → List Float → Bool
point_in_polygon p poly = in_polygon p (tol_of (scale poly)) (points2 poly)

-- vertex k of the polygon, for a k below half the list's length
unfoldable pub vertex : List Float → ℕ → Point2
vertex l k = point2 (get_or l (2 * k) nan) (get_or l (2 * k + 1) nan)
