-- Membership of polygons and extruded polygons (csx's poly.rs), in csx's order of tests. Definitions only.
use Rattle.std.specs.Prelude.{ℕ, ◌+◌, ◌%◌, Bool, false, cond, ◌&&◌, List, ltb, Float}
use Rattle.float.specs.Arithmetic.{◌⊕◌}
use Rattle.geom.specs.Tolerance.{in_range}
use Rattle.geom.specs.Polygons.{point2, point_in_polygon}
use Rattle.math.specs.declared.Vec3.{Vec3}
use Rattle.math.specs.Vectors.{component}
use Rattle.shapes.specs.declared.poly.Axes.{Axes}

-- the two axes after axis n, in cyclic order
unfoldable pub plane_axes : ℕ → Axes
plane_axes n = record { u = (n + 1) % 3; v = (n + 2) % 3 }

-- outside if axis n is none; else between the planes at lo and hi, and seen along axis n in the polygon
unfoldable pub inside_prism : ℕ → Float → Float → List Float → Vec3 → Bool
inside_prism n lo hi vertices p =
    let axes = plane_axes n in
    cond
    (ltb 2 n)
    false
    (in_range (component p n) lo hi && point_in_polygon (point2 (component p axes.u) (component p axes.v)) vertices)

-- in the plane at the elevation
unfoldable pub inside_polygon : ℕ → Float → List Float → Vec3 → Bool
inside_polygon n elevation vertices p = inside_prism n elevation elevation vertices p

-- from the elevation on over the length, which may be negative
unfoldable pub inside_lin_poly : ℕ → Float → Float → List Float → Vec3 → Bool
inside_lin_poly n elevation length vertices p = inside_prism n elevation (elevation ⊕ length) vertices p
