-- One binary digit more, by whether it makes another whole divisor.
use Rattle.std.proofs.Common.{arith}
use Rattle.float.proofs.Rests.{doubled_below, doubled_above}
use Rattle.float.proofs.remainder.rest_of.Goals as goal
use Rattle.float.proofs.remainder.rest_of.Goals.{then-n-r, else-n-r}

pub loop-preserved : goal.loop-preserved
loop-preserved c =
    let i = c.loop.invariant in
    elim c.if-n-r.branch [
      | then-n-r w ↦ rw w.r-is (record { below = omega arith; rest = doubled_above c.args.m c.loop.counter c.args.n c.loop.r i.rest i.below w.if-n-r.true })
      | else-n-r w ↦ rw w.r-is (record { below = omega arith; rest = doubled_below c.args.m c.loop.counter c.args.n c.loop.r i.rest w.if-n-r.false })
    ]
