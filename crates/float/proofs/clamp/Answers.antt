-- Written out, so that a wrong `clamp` is refused at once.
use Rattle.float.specs.Rules.{clamp}
use Rattle.float.proofs.clamp.Goals.{then-x-lo, else-x-lo}
use Rattle.float.proofs.clamp.Goals as goal

pub returns-then-hi-y : goal.returns-then-hi-y
unfolding clamp
returns-then-hi-y c =
    elim c.if-x-lo.branch [
      | then-x-lo w ↦ rw (w.if-x-lo.true, rw w.y-is at c.if-hi-y.true)
      | else-x-lo w ↦ rw (w.if-x-lo.false, rw w.y-is at c.if-hi-y.true)
    ]
