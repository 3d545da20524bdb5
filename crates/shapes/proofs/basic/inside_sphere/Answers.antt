-- Written out, so that a wrong `inside_sphere` is refused at once.
use Rattle.shapes.specs.Round.{inside_sphere}
use Rattle.shapes.proofs.basic.inside_sphere.Goals as goal

pub returns : goal.returns
unfolding inside_sphere
returns c = rw (c.tol.ensures, c.norm.ensures, c.sub.ensures)
