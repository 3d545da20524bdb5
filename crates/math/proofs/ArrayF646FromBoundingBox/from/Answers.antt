-- Written out, so that a wrong `ArrayF646FromBoundingBox::from` is refused at once.
use Rattle.std.proofs.Common.{refl}
use Rattle.math.specs.Vectors.{at}
use Rattle.math.proofs.ArrayF646FromBoundingBox.from.Goals as goal

pub returns : goal.returns
unfolding at
returns c = refl
