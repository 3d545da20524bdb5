-- Written out, so that a wrong `ray::near_place` is refused at once.
use Rattle.walks.specs.steps.NodePlanes.{near_place}
use Rattle.walks.proofs.ray.near_place.Goals as goal

pub returns-then-inverse : goal.returns-then-inverse
unfolding near_place
returns-then-inverse c = rw (c.if-inverse.true, c.place-place.ensures)

pub returns-else-inverse : goal.returns-else-inverse
unfolding near_place
returns-else-inverse c = rw (c.if-inverse.false, c.place-place.ensures)
