-- `fill` meets its contract: after i rounds the numbers of the first i lines stand in front.
use Rattle.std.proofs.Common.{◌≡◌, take}
use Rattle.lent.specs.Over.{over}
use Rattle.text.specs.Lines.{lines}
use Rattle.column.specs.Numbers.{numbers_of}
use Rattle.column.proofs.numbers.fill.Given as goal

abbrev pub invariant-loop-i : goal.invariant-loop-i
invariant-loop-i g l = l.list ≡ over (numbers_of g.T.Cell.becomes (take l.i (lines l.fn.text))) l.initial.list
