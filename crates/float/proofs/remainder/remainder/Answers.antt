-- By the cases of the two patterns; what is left over is that of the two numbers of quanta.
use Rattle.std.specs.Prelude.{◌≡◌, ◌*◌, ◌^◌, ◌<◌}
use Rattle.std.proofs.Common.{arith, refl, sym, ◌∙◌}
use denote.Floats.{passes}
use Rattle.std.specs.Float.{nan, binary64}
use Rattle.std.specs.Float.Ieee.{fits, of_bits}
use Rattle.std.specs.Float.Ieee.Bits.{to_bits-lt}
use Rattle.std.proofs.lemmas.Float.{not_nan_f64_bits}
use Rattle.float.specs.laws.Patterns.{nan_only}
use Rattle.float.specs.laws.OrderTheorems.Pattern.{rest}
use Rattle.float.proofs.Rests.{parts_size, ordered, has_size, left_few, left_parts, rem_of_nan, rem_by_nan, infinite, by_zero, smaller, left_over}
use Rattle.float.proofs.remainder.remainder.Goals as goal

pub returns-then-is_nan : goal.returns-then-is_nan
returns-then-is_nan c = let n = nan_only c.args.a (sym c.if-is_nan.ensures.value) in rw n (rem_of_nan c.args.b)

pub returns-then-is_nan-2 : goal.returns-then-is_nan-2
returns-then-is_nan-2 c = let n = nan_only c.args.b (sym c.if-is_nan-2.ensures.value) in rw n (sym (rem_by_nan c.args.a))

-- the code's f64::NAN
none : of_bits binary64 0x7FF8_0000_0000_0000 ≡ nan
unfolding of_bits
none = refl

pub returns-then-x-ge-INFINITY : goal.returns-then-x-ge-INFINITY
returns-then-x-ge-INFINITY c =
    let a = c.args.a in
    let b = c.args.b in
    none ∙ sym (infinite a b (passes (fits binary64 a) c.well_formed.0.1) (passes (fits binary64 b) c.well_formed.1.0.1) c.if-is_nan.ensures.not_nan c.if-is_nan-2.ensures.not_nan c.if-x-ge-INFINITY.true)

pub returns-then-y-eq0 : goal.returns-then-y-eq0
returns-then-y-eq0 c =
    let a = c.args.a in
    let b = c.args.b in
    none ∙ sym (by_zero a b (passes (fits binary64 a) c.well_formed.0.1) (passes (fits binary64 b) c.well_formed.1.0.1) c.if-is_nan.ensures.not_nan c.if-is_nan-2.ensures.not_nan c.if-y-eq0.true)

pub returns-then-x-y : goal.returns-then-x-y
returns-then-x-y c =
    let a = c.args.a in
    let b = c.args.b in
    let from = c.size_of_pattern-from.ensures in
    sym (smaller a b (passes (fits binary64 a) c.well_formed.0.1) (passes (fits binary64 b) c.well_formed.1.0.1) c.if-is_nan.ensures.not_nan c.if-is_nan-2.ensures.not_nan c.if-x-ge-INFINITY.false c.if-x-y.true
    _ _ from.few (parts_size _ _ _ from.joined from.few from.leading))

pub overflow_add-result : goal.overflow_add-result
overflow_add-result c =
    let wide = to_bits-lt binary64 c.args.a (passes (fits binary64 c.args.a) c.well_formed.0.1) in
    omega (arith, wide, c.pattern_of_size.ensures.finite)

pub float_from_bits-result : goal.float_from_bits-result
float_from_bits-result c =
    let wide = to_bits-lt binary64 c.args.a (passes (fits binary64 c.args.a) c.well_formed.0.1) in
    not_nan_f64_bits _ (omega (arith, wide, c.pattern_of_size.ensures.finite))

pub returns : goal.returns
returns c =
    let a = c.args.a in
    let b = c.args.b in
    let from = c.size_of_pattern-from.ensures in
    let by = c.size_of_pattern-by.ensures in
    let above : 0 < rest b = omega (arith, c.if-y-eq0.false) in
    let below : rest b < 2047 * 2 ^ 52 = omega (arith, c.if-x-y.false, c.if-x-ge-INFINITY.false) in
    let digits = has_size _ _ _ by.joined by.leading above in
    let left = left_parts _ _ _ _ _ _ _ (parts_size _ _ _ from.joined from.few from.leading) (parts_size _ _ _ by.joined by.few by.leading)
    (ordered _ _ _ _ _ _ from.joined by.joined from.few by.leading c.if-x-y.false) digits c.rest_of.ensures in
    left_over a b (passes (fits binary64 a) c.well_formed.0.1) (passes (fits binary64 b) c.well_formed.1.0.1) c.if-is_nan.ensures.not_nan c.if-is_nan-2.ensures.not_nan c.if-x-ge-INFINITY.false above below
    _ _ (left_few _ _ _ _ c.rest_of.ensures digits by.few) left _ c.pattern_of_size.ensures.finite c.pattern_of_size.ensures.size
