-- The floats by which the square root guesses. Nothing rests on the guess but speed, since it is checked. Definitions only.
use Rattle.std.specs.Prelude.{ℕ, ◌+◌, ◌-◌, ◌*◌, ◌/◌, ◌%◌, ◌^◌, Float}
use Rattle.std.specs.Float.{binary64}
use Rattle.std.specs.Float.Ieee.{of_bits, add, sub, mul}

abbrev pub half : Float
half = of_bits binary64 0x3FE0_0000_0000_0000

abbrev pub one_and_half : Float
one_and_half = of_bits binary64 0x3FF8_0000_0000_0000

-- 1.5 * 2^27: a number from 1 to 2 that it is added to keeps 26 digits
abbrev pub cutter : Float
cutter = of_bits binary64 0x41A8_0000_0000_0000

-- Newton's rule for 1 / root of x, from a guess y, with h = x / 2
unfoldable pub closer : Float → Float → Float
closer h y = sub binary64 (mul binary64 one_and_half y) (mul binary64 (mul binary64 h y) (mul binary64 y y))

-- the first 26 digits of s
unfoldable pub front : Float → Float
front s = sub binary64 (add binary64 s cutter) cutter

-- x - s * s, from the front of s and its rest
unfoldable pub missing : Float → Float → Float
unfolding front
missing x s =
    sub binary64 (sub binary64 x (mul binary64 (front s) (front s))) (mul binary64 (add binary64 s (front s)) (sub binary64 s (front s)))

-- Newton's rule for the root of x, from a guess s, with y for 1 / root
unfoldable pub corrected : Float → Float → Float → Float
unfolding missing
corrected x s y = add binary64 s (mul binary64 (missing x s) (mul binary64 half y))

-- 1.digits, or twice that where odd is odd, as a bit pattern
abbrev pub pattern : ℕ → ℕ → ℕ
pattern digits odd = digits % 2 ^ 52 + (1023 + odd % 2) * 2 ^ 52

-- the guess from x and its pattern: 1 / root by halving the pattern's exponent, three steps of Newton's rule on it, and one on the root
unfoldable pub guess_from : ℕ → Float → Float
unfolding closer corrected
guess_from p x =
    let h = mul binary64 half x in
    let y = closer h (closer h (closer h (of_bits binary64 (0x5FE6_EB50_C7B5_37A9 - p / 2)))) in
    corrected x (mul binary64 x y) y

unfoldable pub guess : ℕ → ℕ → Float
unfolding guess_from
guess digits odd = guess_from (pattern digits odd) (of_bits binary64 (pattern digits odd))
