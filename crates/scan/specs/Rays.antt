-- csx's `ray_hits_box` and `ray_triangle` (polyhedron.rs; Möller and Trumbore): each step as csx writes it, with csx's thresholds and
-- comparisons, also where a value is NaN. Definitions only.
use Rattle.std.specs.Prelude.{Bool, false, not, cond, ◌&&◌, ◌||◌, Float}
use Rattle.std.specs.Float.{binary64, inf}
use Rattle.std.specs.Float.Ieee.{of_bits, eq, lt, le}
use Rattle.float.specs.Arithmetic.{◌⊕◌, ◌⊖◌, ◌⊗◌, ◌⊘◌, zero, one}
use Rattle.float.specs.Rules.{min, max, abs}
use Rattle.math.specs.declared.Vec3.{Vec3}
use Rattle.math.specs.declared.BoundingBox.{BoundingBox}
use Rattle.math.specs.Vectors.{sub, dot, cross, norm}
use Rattle.scan.specs.declared.rays.RayHit.{RayHit}
use Rattle.scan.specs.declared.rays.RayHit.TheVariants.{Miss, Hit, Degenerate}

-- ---- boxes

-- where the ray meets a plane: o is the origin, inv one over the direction, all on one axis
abbrev pub meets : Float → Float → Float → Float
meets o inv plane = (plane ⊖ o) ⊗ inv

-- where it meets the nearer plane of a slab, whose planes are at lo and hi
unfoldable pub near : Float → Float → Float → Float → Float
near o inv lo hi = cond (le (meets o inv lo) (meets o inv hi)) (meets o inv lo) (meets o inv hi)

-- and the farther one
unfoldable pub far : Float → Float → Float → Float → Float
far o inv lo hi = cond (le (meets o inv lo) (meets o inv hi)) (meets o inv hi) (meets o inv lo)

-- whether the ray from o meets the box: the last entry, from 0 on, is at most the first exit
unfoldable pub ray_hits_box : Vec3 → Vec3 → BoundingBox → Bool
ray_hits_box o inv b =
    le
    (max (max (max zero (near o.x inv.x b.min.x b.max.x)) (near o.y inv.y b.min.y b.max.y)) (near o.z inv.z b.min.z b.max.z))
    (min (min (min (inf false) (far o.x inv.x b.min.x b.max.x)) (far o.y inv.y b.min.y b.max.y)) (far o.z inv.z b.min.z b.max.z))

-- ---- triangles

-- 1e-12, 1e-9, and the rounded sums 1 + 1e-9 and 1 - 1e-9
abbrev pub thin : Float
thin = of_bits binary64 0x3D719799812DEA11

abbrev pub rim : Float
rim = of_bits binary64 0x3E112E0BE826D695

abbrev pub minus_rim : Float
minus_rim = of_bits binary64 0xBE112E0BE826D695

abbrev pub one_plus_rim : Float
one_plus_rim = of_bits binary64 0x3FF000000044B830

abbrev pub one_minus_rim : Float
one_minus_rim = of_bits binary64 0x3FEFFFFFFF768FA1

-- whether the triangle has no area, or the ray is parallel to it
unfoldable pub parallel : Float → Vec3 → Vec3 → Bool
parallel det e1 e2 =
    let scale = norm e1 ⊗ norm e2 in
    eq scale zero || le (abs det) (thin ⊗ scale)

-- what the ray does where it meets the triangle's plane: u and v say where in the triangle, t how far along the ray
unfoldable pub hit_at : Float → Float → Float → RayHit
hit_at u v t =
    cond
    (not (le minus_rim u && le u one_plus_rim))
    Miss
    (cond
    (lt v minus_rim || lt one_plus_rim (u ⊕ v))
    Miss
    (cond
    (le t zero)
    Miss
    (cond (le u rim || le v rim || le one_minus_rim (u ⊕ v)) Degenerate Hit)))

-- the ray from o in direction d and the triangle a, b, c
unfoldable pub ray_triangle : Vec3 → Vec3 → Vec3 → Vec3 → Vec3 → RayHit
ray_triangle o d a b c =
    let e1 = sub b a in
    let e2 = sub c a in
    let h = cross d e2 in
    let det = dot e1 h in
    let s = sub o a in
    let q = cross s e1 in
    let f = one ⊘ det in
    cond (parallel det e1 e2) Miss (hit_at (f ⊗ dot s h) (f ⊗ dot d q) (f ⊗ dot e2 q))
