-- Written out, so that a wrong `angle_in_range` is refused at once.
use Rattle.geom.specs.Angles.{angle_in_range}
use Rattle.geom.proofs.coords.angle_in_range.Goals as goal

pub returns-then-stop-start : goal.returns-then-stop-start
unfolding angle_in_range
returns-then-stop-start c = rw c.if-stop-start.true c.in_span.ensures
