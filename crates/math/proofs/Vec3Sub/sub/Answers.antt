-- Written out, so that a wrong `Vec3Sub::sub` is refused at once.
use Rattle.math.specs.Vectors.{sub}
use Rattle.math.proofs.Vec3Sub.sub.Goals as goal

pub returns : goal.returns
unfolding sub
returns c = c.new.ensures
