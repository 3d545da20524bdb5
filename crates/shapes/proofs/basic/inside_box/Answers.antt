-- Written out, so that a wrong `inside_box` is refused at once.
use Rattle.std.proofs.Common.{sym, ◌∙◌}
use Rattle.shapes.specs.BoxShapes.{inside_box}
use Rattle.shapes.proofs.basic.inside_box.Goals as goal

pub returns-then-not-in_range-2 : goal.returns-then-not-in_range-2
unfolding inside_box
returns-then-not-in_range-2 c =
    rw (sym c.in_range.ensures ∙ c.if-not-in_range.false, sym c.in_range-2.ensures ∙ c.if-not-in_range-2.true)
