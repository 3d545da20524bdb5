-- Written out, so that a wrong `points::prepare` is refused at once.
use Rattle.std.proofs.Common.{refl}
use Rattle.polyhedron.specs.steps.Points.{prepared}
use Rattle.polyhedron.proofs.points.prepare.Goals as goal

pub returns : goal.returns
unfolding prepared
returns c = rw (c.prepare.ensures, c.headings.ensures) refl
