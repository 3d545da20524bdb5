-- `fill_ends` meets its contract: after i rounds the ends of the first i triangles stand in front.
use Rattle.std.proofs.Common.{◌≡◌}
use Rattle.lent.specs.Over.{over}
use Rattle.column.specs.Numbers.{ends_from}
use Rattle.column.proofs.numbers.fill_ends.Given as goal

abbrev pub invariant-loop-i : goal.invariant-loop-i
invariant-loop-i l = l.end-items ≡ over (ends_from 0 l.i) l.initial.end-items
