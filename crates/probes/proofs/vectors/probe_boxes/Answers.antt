-- `probe_boxes` is safe: the dimension of a box, a count of three axes, fits a byte.
use Rattle.std.specs.Prelude.{Bool, true, false, ◌+◌, ◌≤◌}
use Rattle.std.proofs.Common.{arith, Fits, w8}
use Rattle.std.specs.Float.Ieee.{lt}
use Rattle.std.specs.Int.{from_bool}
use Rattle.math.specs.declared.BoundingBox.{BoundingBox}
use Rattle.math.specs.BoundingBoxes.{dimension}
use Rattle.probes.proofs.vectors.probe_boxes.Goals as goal

at_most_one : (x : Bool) → from_bool x ≤ 1
at_most_one false = omega arith
at_most_one true = omega arith

dimension_fits : (b : BoundingBox) → Fits w8 (dimension b)
unfolding dimension
dimension_fits b = go (lt b.min.x b.max.x) (lt b.min.y b.max.y) (lt b.min.z b.max.z)
  where
    go : (x y z : Bool) → Fits w8 (from_bool x + from_bool y + from_bool z)
    go x y z = omega (arith, at_most_one x, at_most_one y, at_most_one z)

pub overflow_cast-dimension : goal.overflow_cast-dimension
overflow_cast-dimension c = rw c.dimension.ensures (dimension_fits c.box_at-a.result)
