-- Written out, so that a wrong `nearest` is refused at once.
use Rattle.scan.specs.Closest.{va, vb, vc, nearest}
use Rattle.scan.proofs.closest.nearest.Goals as goal

pub returns-then-d-2 : goal.returns-then-d-2
unfolding nearest va vb vc
returns-then-d-2 c = rw (c.if-d.false, c.if-d-2.true)
