-- Written out, so that a wrong `BoundingBox::is_empty` is refused at once.
use Rattle.std.proofs.Common.{refl}
use Rattle.math.specs.BoundingBoxes.{is_empty}
use Rattle.math.proofs.BoundingBox.is_empty.Goals as goal

pub returns : goal.returns
unfolding is_empty
returns c = refl
