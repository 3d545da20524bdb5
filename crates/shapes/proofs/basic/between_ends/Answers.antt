-- Written out, so that a wrong `between_ends` is refused at once.
use Rattle.shapes.specs.Round.{between_ends}
use Rattle.shapes.proofs.basic.between_ends.Goals as goal

pub returns : goal.returns
unfolding between_ends
returns c = rw c.tol.ensures
