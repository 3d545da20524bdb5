-- Rust's operators on f64, written as a numerical analyst writes rounded operations, and the small constants of csx's
-- source by their bit patterns. Definitions only.
use Rattle.std.specs.Prelude.{Float}
use Rattle.std.specs.Float.{binary64}
use Rattle.std.specs.Float.Ieee.{of_bits, add, sub, mul, div}

infixl 65 ◌⊕◌
infixl 65 ◌⊖◌
infixl 70 ◌⊗◌
infixl 70 ◌⊘◌
-- the sum, rounded to the nearest f64
abbrev pub ◌⊕◌ : Float → Float → Float
a ⊕ b = add binary64 a b

-- the difference, rounded
abbrev pub ◌⊖◌ : Float → Float → Float
a ⊖ b = sub binary64 a b

-- the product, rounded
abbrev pub ◌⊗◌ : Float → Float → Float
a ⊗ b = mul binary64 a b

-- the quotient, rounded
abbrev pub ◌⊘◌ : Float → Float → Float
a ⊘ b = div binary64 a b

-- 0.0, the zero with the sign plus
abbrev pub zero : Float
zero = of_bits binary64 0

-- 0.5
abbrev pub half : Float
half = of_bits binary64 0x3FE0000000000000

-- 1.0
abbrev pub one : Float
one = of_bits binary64 0x3FF0000000000000

-- 2.0
abbrev pub two : Float
two = of_bits binary64 0x4000000000000000
