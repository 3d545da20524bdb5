-- Written out, so that a wrong `in_span` is refused at once.
use Rattle.geom.specs.Angles.{in_span}
use Rattle.geom.proofs.coords.in_span.Goals as goal

pub returns : goal.returns
unfolding in_span
returns c = rw (c.if-span-eps.false, c.rem_euclid-d.ensures)
