-- Written out, so that a wrong `inside` is refused at once.
use Rattle.shapes.specs.Shapes.{inside}
use Rattle.shapes.proofs.inside.Goals as goal

pub returns-in-Box : goal.returns-in-Box
unfolding inside
returns-in-Box c = rw c.in-Box.is c.inside_box.ensures
