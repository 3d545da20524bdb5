-- Written out, so that a wrong `axial` is refused at once.
use Rattle.std.proofs.Common.{◌≡◌}
use mathlib.Core.Bool.{true}
use Rattle.std.specs.Float.Ieee.{eq}
use Rattle.float.specs.Arithmetic.{zero}
use Rattle.math.specs.Vectors.{sub, norm_sq}
use Rattle.shapes.specs.Round.{axial}
use Rattle.shapes.proofs.basic.axial.Goals as goal

pub returns-then-l2 : goal.returns-then-l2
unfolding axial
returns-then-l2 c =
    let none : eq (norm_sq (sub c.args.b c.args.a)) zero ≡ true = rw (← c.sub-axis.ensures, ← c.norm_sq-l2.ensures) c.if-l2.true in
    rw none
