-- Written out, so that a wrong `min` is refused at once.
use Rattle.float.specs.Rules.{min}
use Rattle.float.proofs.min.Goals as goal

pub returns-then-b-a : goal.returns-then-b-a
unfolding min
returns-then-b-a c = rw c.if-b-a.true
