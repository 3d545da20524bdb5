-- Written out, so that a wrong `Vec3::normalized` is refused at once.
use Rattle.std.proofs.Common.{sym}
use Rattle.math.specs.Vectors.{normalized}
use Rattle.math.proofs.Vec3.normalized.Goals as goal

pub returns-then-n : goal.returns-then-n
unfolding normalized
returns-then-n c = rw (c.div.ensures, sym c.norm-n.ensures, c.if-n.true)
