-- Written out, so that a wrong `finite_numbers` is refused at once.
use Rattle.primitives.specs.ShapeQuestions.{finite_numbers}
use Rattle.primitives.proofs.finite_numbers.Goals as goal

pub returns-in-Point : goal.returns-in-Point
unfolding finite_numbers
returns-in-Point c = rw (c.in-Point.is, c.is_finite-in-Point.ensures)

pub returns-in-Wire : goal.returns-in-Wire
unfolding finite_numbers
returns-in-Wire c = rw (c.in-Wire.is, c.all_finite-in-Wire.ensures, c.is_finite-in-Wire.ensures)
