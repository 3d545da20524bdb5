-- Written out, so that a wrong `BoundingBox::encloses` is refused at once.
use Rattle.std.proofs.Common.{refl}
use Rattle.math.specs.BoundingBoxes.{encloses}
use Rattle.math.proofs.BoundingBox.encloses.Goals as goal

pub returns : goal.returns
unfolding encloses
returns c = refl
