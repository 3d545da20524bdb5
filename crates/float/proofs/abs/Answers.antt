-- `float::abs` meets its contract: the sign that std clears is the one that the definition clears.
use mathlib.Core.Path.{◌≡◌, refl, ◌∙◌}
use mathlib.Core.Bool.{false}
use lib.Ieee.{Float, nan, inf, fin}
use Rattle.std.specs.Float.{float_with_sign}
use Rattle.float.specs.Rules.{abs}
use Rattle.float.proofs.abs.Goals as goal

cleared : (x : Float) → float_with_sign false x ≡ abs x
unfolding float_with_sign abs
cleared nan = refl
cleared (inf s) = refl
cleared (fin s m e) = refl

pub returns : goal.returns
returns c = c.abs.ensures.value ∙ cleared c.args.x
