-- Written out, so that a wrong `inside_cylindrical_box` is refused at once.
use Rattle.std.proofs.Common.{sym, ◌∙◌}
use Rattle.shapes.specs.BoxShapes.{inside_cylindrical_box}
use Rattle.shapes.proofs.basic.inside_cylindrical_box.Goals as goal

pub returns-then-p-tol : goal.returns-then-p-tol
unfolding inside_cylindrical_box
returns-then-p-tol c =
    rw (sym c.in_range.ensures ∙ c.if-not-in_range.false, sym c.in_range-2.ensures ∙ c.if-not-in_range-2.false, ← c.tol.ensures, c.if-p-tol.true)

pub returns : goal.returns
unfolding inside_cylindrical_box
returns c =
    rw (sym c.in_range.ensures ∙ c.if-not-in_range.false, sym c.in_range-2.ensures ∙ c.if-not-in_range-2.false, ← c.tol.ensures, c.if-p-tol.false, c.angle_ok.ensures)
