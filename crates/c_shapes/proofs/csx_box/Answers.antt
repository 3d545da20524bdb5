-- Written out, so that a wrong `csx_box` is refused at once.
use Rattle.c_shapes.proofs.csx_box.Goals as goal

pub returns : goal.returns
returns c = rw (← c.new.ensures, ← c.new-2.ensures, ← c.new-3.ensures) c.alone.ensures
