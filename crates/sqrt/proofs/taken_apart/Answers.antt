-- `sqrt::taken_apart` meets its contract. The bits of a subnormal value, moved up by the zeros before them, have 53 digits (`moved`); any other value's fields are what is asked for.
use native.Mathlib.Omega.{arith}
use Rattle.float.specs.laws.OrderTheorems.Pattern.{magnitude_normal}
use Rattle.sqrt.proofs.RootBits.{moved, moved_value}
use Rattle.sqrt.proofs.taken_apart.Goals as goal

pub overflow_sub-missing : goal.overflow_sub-missing
overflow_sub-missing c =
    let d = moved c.args.bits c.requires.0 c.if-bits-lt4503599627370496.true in
    rw c.from-missing.ensures d.enough

pub returns-then-bits-lt4503599627370496 : goal.returns-then-bits-lt4503599627370496
returns-then-bits-lt4503599627370496 c =
    let d = moved c.args.bits c.requires.0 c.if-bits-lt4503599627370496.true in
    rw c.from-missing.ensures
    (record { value = moved_value _ _ c.if-bits-lt4503599627370496.true d; low = omega (arith, d.few); high = omega arith })

pub returns-else-bits-lt4503599627370496 : goal.returns-else-bits-lt4503599627370496
returns-else-bits-lt4503599627370496 c = record { value = magnitude_normal _ c.if-bits-lt4503599627370496.false; low = omega arith; high = omega arith }
