-- `float::is_finite` meets its contract: x - x is a NaN at a NaN and at an infinity, and a number at any other value.
use mathlib.Core.Path.{◌≡◌, refl}
use mathlib.Core.Bool.{true, false, not}
use lib.Ieee.{Float, nan, inf, fin, binary64, sub, is_nan}
use lib.Ieee.Bits.{is_true}
use Rattle.float.specs.Rules.{is_finite}
use Rattle.float.specs.laws.Order.{finite_number, sub_number_left}
use Rattle.std.proofs.Common.{ap, ◌∙◌}
use Rattle.float.proofs.is_finite.Goals as goal

difference : (x : Float) → not (is_nan (sub binary64 x x)) ≡ is_finite x
unfolding is_finite is_nan
difference nan = unfold sub in refl
difference (inf true) = unfold sub in refl
difference (inf false) = unfold sub in refl
difference (fin s m e) =
    let x = fin s m e in
    is_true (not (is_nan (sub binary64 x x))) (sub_number_left binary64 x x tt (finite_number x tt))

pub returns : goal.returns
returns c = ap not c.is_nan.ensures.value ∙ difference c.args.x
