-- Written out, so that a wrong `in_shell` is refused at once.
use Rattle.shapes.specs.Round.{in_shell}
use Rattle.shapes.proofs.basic.in_shell.Goals as goal

pub returns : goal.returns
unfolding in_shell
returns c = rw (c.tol.ensures, c.abs.ensures, c.abs-w.ensures)
