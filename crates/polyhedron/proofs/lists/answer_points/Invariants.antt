-- `answer_points` meets its contract. The invariant: the first i answers are written.
use mathlib.Core.Path.{◌≡◌}
use lib.ListN.{length, take}
use Rattle.lent.specs.Over.{over}
use Rattle.polyhedron.specs.PointLists.{answers_to}
use Rattle.polyhedron.proofs.lists.answer_points.Given as goal

abbrev pub invariant-loop-i : goal.invariant-loop-i
invariant-loop-i l = (length l.answers ≡ length l.initial.answers) × (l.answers ≡ over (take l.i (answers_to l.prepared l.points)) l.initial.answers)
