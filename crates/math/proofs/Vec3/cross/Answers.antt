-- Written out, so that a wrong `Vec3::cross` is refused at once.
use Rattle.math.specs.Vectors.{cross}
use Rattle.math.proofs.Vec3.cross.Goals as goal

pub returns : goal.returns
unfolding cross
returns c = c.new.ensures
