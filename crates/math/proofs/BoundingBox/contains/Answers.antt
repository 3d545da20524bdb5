-- Written out, so that a wrong `BoundingBox::contains` is refused at once.
use Rattle.std.proofs.Common.{refl}
use Rattle.math.specs.BoundingBoxes.{contains}
use Rattle.math.proofs.BoundingBox.contains.Goals as goal

pub returns : goal.returns
unfolding contains
returns c = refl
