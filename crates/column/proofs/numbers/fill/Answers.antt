-- `fill` meets its contract: each round stores the numbers of one more line.
use Rattle.std.proofs.Common.{arith, sym, take_all}
use Rattle.lent.specs.laws.OverLaws.{over_nothing}
use Rattle.text.specs.Lines.{lines}
use Rattle.text.specs.laws.LineLaws.{length_lines}
use Rattle.column.specs.Numbers.{numbers_of}
use Rattle.column.specs.laws.NumberLaws.{chunk_at, chunk_passes, numbers_written}
use Rattle.column.proofs.numbers.fill.Goals as goal

pub loop-i-init : goal.loop-i-init
unfolding numbers_of
loop-i-init g c = sym (over_nothing c.args.list.now)

pub of-requires : goal.of-requires
of-requires g c =
    rw c.number_at.ensures (chunk_passes g.T.Cell.fits c.args.text.now _ c.loop-i.i c.requires c.as_chunks.ensures.front (omega arith)).0

pub of-requires-in-loop-i : goal.of-requires-in-loop-i
of-requires-in-loop-i g c =
    rw c.number_at-in-loop-i.ensures (chunk_passes g.T.Cell.fits c.args.text.now _ c.loop-i.i c.requires c.as_chunks.ensures.front (omega arith)).1

pub of-requires-in-loop-i-2 : goal.of-requires-in-loop-i-2
of-requires-in-loop-i-2 g c =
    rw c.number_at-in-loop-i-2.ensures (chunk_passes g.T.Cell.fits c.args.text.now _ c.loop-i.i c.requires c.as_chunks.ensures.front (omega arith)).2

pub loop-i-preserved : goal.loop-i-preserved
loop-i-preserved g c =
    let i = c.loop-i.i in
    let text = c.args.text.now in
    let old = c.args.list.now in
    let line = chunk_at text _ i c.as_chunks.ensures.front c.requires.whole (omega (arith, c.as_chunks.ensures.front_len)) in
    let part = rw (c.of.ensures, c.of-in-loop-i.ensures, c.of-in-loop-i-2.ensures, c.number_at.ensures, c.number_at-in-loop-i.ensures, c.number_at-in-loop-i-2.ensures, line) at c.copy_from_slice.ensures.after in
    rw c.loop-i.invariant (numbers_written g.T.Cell.becomes text i old _ _ (omega (arith, c.requires.whole, c.as_chunks.ensures.front_len)) (omega (arith, c.requires.room, c.as_chunks.ensures.front_len)) (omega arith) part)

pub returns : goal.returns
returns g c =
    let text = c.args.text.now in
    let all = take_all c.loop-i.i (lines text) (omega (arith, length_lines text, c.requires.whole, c.as_chunks.ensures.front_len)) in
    rw all at c.loop-i.invariant
