-- `BoundingBox::empty` meets its contract: the pattern of `f64::INFINITY` is that of +∞.
use lib.Ieee.{of_bits, neg}
use Rattle.math.specs.BoundingBoxes.{empty}
use Rattle.math.proofs.BoundingBox.empty.Goals as goal

pub returns : goal.returns
unfolding empty of_bits neg
returns c = rw (c.new.ensures, c.new-2.ensures)
