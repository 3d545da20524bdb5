-- The box of three corners, worked out axis by axis. Definitions only.
use Rattle.std.specs.Prelude.{◌≡◌, true, false, Float}
use Rattle.std.specs.Float.{inf}
use Rattle.float.specs.Rules.{min, max}
use Rattle.math.specs.declared.BoundingBox.{BoundingBox}
use Rattle.math.specs.declared.CornerPoints.{CornerPoints}
use Rattle.math.specs.Vectors as Vectors
use Rattle.math.specs.BoundingBoxes.{empty, include}

-- the corners are finite
pub record Finite (t : CornerPoints) : Type 0 where
  pub a : Vectors.is_finite t.a ≡ true
  pub b : Vectors.is_finite t.b ≡ true
  pub c : Vectors.is_finite t.c ≡ true

-- the triangle's own box: that of its three corners in their order, from the empty box
unfoldable pub own_box : CornerPoints → BoundingBox
own_box t = include (include (include empty t.a) t.b) t.c

-- the lowest of three numbers, as the box of three points finds it
abbrev pub lowest : Float → Float → Float → Float
lowest a b c = min (min (min (inf false) a) b) c

-- the highest of three numbers, as the box of three points finds it
abbrev pub highest : Float → Float → Float → Float
highest a b c = max (max (max (inf true) a) b) c
