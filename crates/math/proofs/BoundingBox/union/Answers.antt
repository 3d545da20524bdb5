-- Written out, so that a wrong `BoundingBox::union` is refused at once.
use Rattle.std.proofs.Common.{sym, ◌∙◌}
use Rattle.math.specs.BoundingBoxes.{union}
use Rattle.math.proofs.BoundingBox.union.Goals as goal

pub returns-then-is_empty : goal.returns-then-is_empty
unfolding union
returns-then-is_empty c = rw (sym c.is_empty.ensures ∙ c.if-is_empty.true)
