-- `fill_ends` meets its contract: each round stores one more end.
use Rattle.std.proofs.Common.{◌≡◌, arith, sym, take, length, length-take-le}
use Rattle.lent.specs.Over.{over}
use Rattle.lent.specs.laws.OverLaws.{over_nothing, over_whole}
use Rattle.column.specs.Numbers.{ends_from}
use Rattle.column.specs.laws.NumberLaws.{length_ends, ends_stored}
use Rattle.column.proofs.numbers.fill_ends.Goals as goal

pub loop-i-init : goal.loop-i-init
unfolding ends_from
loop-i-init c = sym (over_nothing (take c.args.triangles c.args.ends.now))

pub loop-i-preserved : goal.loop-i-preserved
loop-i-preserved c =
    rw c.loop-i.invariant (ends_stored c.loop-i.i (take c.args.triangles c.args.ends.now) (omega arith))

pub returns : goal.returns
unfolding over
returns c =
    let n = c.args.triangles in
    let front = take n c.args.ends.now in
    let few : length front ≡ n = length-take-le n c.args.ends.now (omega arith) in
    let all : c.loop-i.i ≡ n = omega arith in
    let whole = over_whole (ends_from 0 n) front (omega (arith, length_ends 0 n)) in
    rw (c.loop-i.invariant, all, whole, length_ends 0 n)
