-- Written out, so that a wrong `crosses` is refused at once.
use Rattle.geom.specs.Polygons.{crosses}
use Rattle.geom.proofs.crosses.Goals as goal

pub returns-then-i-p : goal.returns-then-i-p
unfolding crosses
returns-then-i-p c = rw c.if-i-p.true
