-- The digits are moved up as far as the exponent allows, until there is one before the point, as in the parts of a pattern (`placed`).
use Rattle.std.proofs.Common.{arith, ◌-◌, ◌∙◌}
use Rattle.float.proofs.Rests.{Placed, places_fit, placed, no_parts, magnitude_parts}
use Rattle.float.proofs.remainder.pattern_of_size.Goals.{After-min-places}
use Rattle.float.proofs.remainder.pattern_of_size.Goals as goal

-- what the digits are once they are moved
moved : (c : After-min-places) → Placed c.args.size.digits c.args.size.exponent c.min-places.result
moved c = placed c.args.size.digits c.args.size.exponent c.min-places.result c.from.result (omega arith) c.requires.digits_fit c.from.ensures c.min-places.ensures

pub returns-then-size-eq0-clause-size : goal.returns-then-size-eq0-clause-size
returns-then-size-eq0-clause-size c = no_parts c.args.size.digits c.args.size.exponent c.if-size-eq0.true

pub overflow_sub-from : goal.overflow_sub-from
overflow_sub-from c = omega (arith, places_fit c.args.size.digits (omega arith) c.requires.digits_fit)

pub overflow_add-result : goal.overflow_add-result
overflow_add-result c = omega (arith, (moved (goal.at.overflow_add-result c).After-min-places).few)

pub returns-clause-size : goal.returns-clause-size
returns-clause-size c =
    let p = moved (goal.at.returns-clause-size c).After-min-places in
    rw p.moved (magnitude_parts (c.args.size.exponent - c.min-places.result) _ p.few p.leading ∙ p.same)

pub returns-clause-finite : goal.returns-clause-finite
returns-clause-finite c = omega (arith, (moved (goal.at.returns-clause-finite c).After-min-places).few)
