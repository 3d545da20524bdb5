-- `judge_text` meets its contract: the lines that are left are still to be judged.
use Rattle.std.proofs.Common.{◌≡◌, ◌≤◌}
use Rattle.std.specs.Slice.Iter.{chunks_rest, chunks_size}
use Rattle.text.specs.Lines.{none, lines_in, lines, judge}
use Rattle.text.proofs.judge_text.Given as goal

abbrev pub invariant-loop-line : goal.invariant-loop-line
invariant-loop-line l =
    goal.iterator-loop-line.can_next l.line-iterator
    × goal.iterator-loop-line.is_finite l.line-iterator
    × (chunks_size l.line-iterator ≡ 36)
    × (lines_in l.counts ≤ 1024)
    × (judge l.first l.counts (lines (chunks_rest l.line-iterator)) ≡ judge l.first none (lines l.text))
