-- Written out, so that a wrong `ArrayF643FromVec3::from` is refused at once.
use Rattle.std.proofs.Common.{refl}
use Rattle.math.specs.Vectors.{at}
use Rattle.math.proofs.ArrayF643FromVec3.from.Goals as goal

pub returns : goal.returns
unfolding at
returns c = refl
