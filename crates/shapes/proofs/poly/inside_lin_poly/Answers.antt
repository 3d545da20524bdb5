-- Written out, so that a wrong `inside_lin_poly` is refused at once.
use Rattle.shapes.specs.Planes.{inside_lin_poly}
use Rattle.shapes.proofs.poly.inside_lin_poly.Goals as goal

pub returns : goal.returns
unfolding inside_lin_poly
returns c = c.inside_prism.ensures
