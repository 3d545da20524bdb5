-- Written out, so that a wrong `Vec3FromArrayF643::from` is refused at once.
use Rattle.math.specs.Vectors.{at}
use Rattle.math.proofs.Vec3FromArrayF643.from.Goals as goal

pub returns : goal.returns
unfolding at
returns c = c.new.ensures
