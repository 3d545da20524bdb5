-- Written out, so that a wrong `between` is refused at once.
use Rattle.geom.specs.Tolerance.{between}
use Rattle.geom.proofs.between.Goals as goal

pub returns : goal.returns
unfolding between
returns c = rw (c.max-t.ensures, c.tol-2.ensures, c.tol.ensures)
