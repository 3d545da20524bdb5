-- `float::order_key` meets its contract. A NaN gives the largest u64. Any other value gives the key of its pattern, by the case of the definition that the test found.
use Prim.Native.Nat.{◌^◌}
use native.Mathlib.Omega.{arith}
use mathlib.Core.Path.{sym}
use borrow.Author.Tests.{le-leb, lt-leb}
use lib.Ieee.{binary64, fits, to_bits}
use lib.Ieee.Bits.{to_bits-lt}
use denote.Floats.{passes}
use Rattle.float.specs.TotalOrder.{key_of, order_key}
use Rattle.float.specs.laws.OrderTheorems.{key_pattern}
use Rattle.float.specs.laws.Patterns.{nan_only}
use Rattle.float.proofs.order_key.Goals as goal

pub returns-then-is_nan : goal.returns-then-is_nan
unfolding order_key
returns-then-is_nan c = rw (nan_only c.args.x (sym c.if-is_nan.ensures.value))

pub overflow_sub-result : goal.overflow_sub-result
overflow_sub-result c =
    let x = c.args.x in
    omega (arith, to_bits-lt binary64 x (passes (fits binary64 x) c.well_formed.0.1))

pub returns-then-b-lt9223372036854775808 : goal.returns-then-b-lt9223372036854775808
unfolding key_of
returns-then-b-lt9223372036854775808 c =
    let x = c.args.x in
    rw (key_pattern x c.if-is_nan.ensures.not_nan, lt-leb (2 ^ 63) (to_bits binary64 x) (omega arith))

pub returns-else-b-lt9223372036854775808 : goal.returns-else-b-lt9223372036854775808
unfolding key_of
returns-else-b-lt9223372036854775808 c =
    let x = c.args.x in
    rw (key_pattern x c.if-is_nan.ensures.not_nan, le-leb (2 ^ 63) (to_bits binary64 x) (omega arith))
