-- Written out, so that a wrong `in_range` is refused at once.
use Rattle.geom.specs.Tolerance.{in_range}
use Rattle.geom.proofs.in_range.Goals as goal

pub returns-then-a-b : goal.returns-then-a-b
unfolding in_range
returns-then-a-b c = rw c.if-a-b.true c.between.ensures
