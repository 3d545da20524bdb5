-- `value_of` meets its contract: so few digits say a number that fits.
use Rattle.std.proofs.Common.{◌≡◌, ◌≤◌, ◌+◌, ◌*◌, ◌^◌, arith, sym, ◌∙◌, add-one, pow-suc, drop_of_length-le}
use Rattle.std.proofs.Math.Nat.{pow-le-pow_right}
use Rattle.text.specs.Fields.{value_from}
use Rattle.text.specs.laws.FieldLaws.{value_from_next, next_digit}
use Rattle.text.proofs.fields.value_of.Goals as goal

pub overflow_mul-read : goal.overflow_mul-read
overflow_mul-read c =
    let few : 10 ^ c.loop-digit.digit-index ≤ 100000000000000000 = pow-le-pow_right (omega arith) {j = 17} (omega arith) in
    omega arith

pub overflow_sub-digit : goal.overflow_sub-digit
overflow_sub-digit c = (next_digit c.args.digits.now c.loop-digit.digit-index (omega arith) c.loop-digit.invariant.2).0

pub overflow_add-read : goal.overflow_add-read
overflow_add-read c =
    let few : 10 ^ c.loop-digit.digit-index ≤ 100000000000000000 = pow-le-pow_right (omega arith) {j = 17} (omega arith) in
    let digit = next_digit c.args.digits.now c.loop-digit.digit-index (omega arith) c.loop-digit.invariant.2 in
    omega (arith, digit.1)

pub loop-digit-preserved : goal.loop-digit-preserved
loop-digit-preserved c =
    let i = c.loop-digit.digit-index in
    let digit = next_digit c.args.digits.now i (omega arith) c.loop-digit.invariant.2 in
    let more : 10 ^ (i + 1) ≡ 10 ^ i * 10 = rw (add-one i) (pow-suc 10 i) in (
      omega (arith, digit.0, digit.1),
      rw c.from.ensures (sym (value_from_next c.args.digits.now i (omega arith) c.loop-digit.read) ∙ c.loop-digit.invariant.1),
      digit.2,
    )

pub returns : goal.returns
unfolding value_from
returns c = rw (drop_of_length-le c.args.digits.now {i = c.loop-digit.digit-index} (omega arith)) at c.loop-digit.invariant.1
