-- Written out, so that a wrong `csx_sphere` is refused at once.
use Rattle.c_shapes.proofs.csx_sphere.Goals as goal

pub returns : goal.returns
returns c = rw (← c.new.ensures, ← c.new-2.ensures) c.alone.ensures
