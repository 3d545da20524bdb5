-- Written out, so that a wrong `inside_wire` is refused at once.
use Rattle.shapes.specs.Polylines.{inside_wire}
use Rattle.shapes.proofs.curve.inside_wire.Goals as goal

pub returns : goal.returns
unfolding inside_wire
returns c = rw (← c.polyline_dist.ensures, ← c.scale.ensures, ← c.tol.ensures)
