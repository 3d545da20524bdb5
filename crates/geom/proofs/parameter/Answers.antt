-- Written out, so that a wrong `parameter` is refused at once.
use Rattle.geom.specs.Segments.{parameter}
use Rattle.geom.proofs.parameter.Goals as goal

pub returns-then-l2 : goal.returns-then-l2
unfolding parameter
returns-then-l2 c = rw c.if-l2.true c.clamp.ensures
