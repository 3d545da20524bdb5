-- `significand::guess` meets its contract: both patterns lie below that of +∞, so none is a NaN's, and the steps are those of the definition.
use mathlib.Core.Path.{◌∙◌, ap}
use native.Mathlib.Omega.{arith}
use lib.Ieee.{Float, binary64, of_bits, mul}
use Rattle.sqrt.specs.steps.Guess.{half, closer, corrected, pattern, guess}
use Rattle.float.specs.laws.Patterns.{number_pattern}
use Rattle.sqrt.proofs.significand.guess.Goals as goal

pub float_from_bits-x : goal.float_from_bits-x
float_from_bits-x c = number_pattern _ (omega arith)

pub float_from_bits-first : goal.float_from_bits-first
float_from_bits-first c = number_pattern _ (omega arith)

pub returns : goal.returns
unfolding guess
returns c =
    let x = of_bits binary64 (pattern c.args.digits c.args.odd) in
    let h = mul binary64 half x in
    c.corrected.ensures ∙ ap (λ (y : Float). corrected x (mul binary64 x y) y) (c.closer-y.ensures ∙ ap (closer h) (c.closer-2.ensures ∙ ap (closer h) c.closer.ensures))
