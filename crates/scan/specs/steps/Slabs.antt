-- A quicker test of a ray against a box: the sign of the direction says which plane of a slab is the nearer one, and the farther side is negated, so that only
-- maxima are taken. Definitions only.
use Rattle.std.specs.Prelude.{◌≡◌, Bool, true, false, cond, Float, ◌&&◌}
use Rattle.std.specs.Float.Ieee.{neg, lt, le, ne}
use Rattle.float.specs.Arithmetic.{zero}
use Rattle.float.specs.Rules.{max}
use Rattle.math.specs.declared.Vec3.{Vec3}
use Rattle.math.specs.declared.BoundingBox.{BoundingBox}
use Rattle.math.specs.Vectors as Vectors
use Rattle.math.specs.BoundingBoxes.{is_empty}
use Rattle.scan.specs.Rays.{meets}

-- where the ray enters a slab: o is the origin, inv one over the direction, lo and hi the planes, all on one axis
unfoldable pub entry : Float → Float → Float → Float → Float
entry o inv lo hi = meets o inv (cond (lt zero inv) lo hi)

-- where it leaves the slab, negated
unfoldable pub minus_exit : Float → Float → Float → Float → Float
minus_exit o inv lo hi = meets o (neg inv) (cond (lt zero inv) hi lo)

-- whether the last entry, from 0 on, is at most the first exit: x, y and z are the entries, u, v and w the exits, negated
unfoldable pub overlap : Float → Float → Float → Float → Float → Float → Bool
overlap x y z u v w = le (max (max (max zero x) y) z) (neg (max (max u v) w))

-- whether the ray from o meets the box
unfoldable pub slab_hits : Vec3 → Vec3 → BoundingBox → Bool
slab_hits o inv b =
    overlap
    (entry o.x inv.x b.min.x b.max.x)
    (entry o.y inv.y b.min.y b.max.y)
    (entry o.z inv.z b.min.z b.max.z)
    (minus_exit o.x inv.x b.min.x b.max.x)
    (minus_exit o.y inv.y b.min.y b.max.y)
    (minus_exit o.z inv.z b.min.z b.max.z)

-- whether each component is finite and not zero
unfoldable pub finite_non_zero : Vec3 → Bool
finite_non_zero v = Vectors.is_finite v && ne v.x zero && ne v.y zero && ne v.z zero

-- what the quicker test takes for granted: a finite origin, factors that are finite and not zero, and a box that is not empty
pub record Met (o inv : Vec3) (b : BoundingBox) : Type 0 where
  pub origin : Vectors.is_finite o ≡ true
  pub direction : finite_non_zero inv ≡ true
  pub some : is_empty b ≡ false
