-- Written out, so that a wrong `contains` is refused at once.
use Rattle.std.proofs.Common.{sym, ◌∙◌}
use Rattle.primitives.specs.ShapeQuestions.{shape_answer, shape_verdict, finite_point}
use Rattle.primitives.proofs.contains.Goals as goal

pub returns : goal.returns
unfolding shape_answer shape_verdict finite_point
returns c =
    rw (sym c.whole_entries.ensures ∙ c.if-not-whole_entries.false, sym c.finite_numbers.ensures ∙ c.if-not-finite_numbers.false, sym c.is_finite.ensures ∙ c.if-not-is_finite.false, c.inside.ensures)
