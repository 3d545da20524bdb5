-- Written out, so that a wrong `BoundingBox::intersection` is refused at once.
use Rattle.math.specs.BoundingBoxes.{intersection}
use Rattle.math.proofs.BoundingBox.intersection.Goals as goal

pub returns : goal.returns
unfolding intersection
returns c = rw (c.min.ensures, c.max.ensures)
