-- Written out, so that a wrong `csx_polygon` is refused at once.
use Rattle.c_shapes.proofs.csx_polygon.Goals as goal

pub returns : goal.returns
returns c = rw (← c.new.ensures) c.asked.ensures
