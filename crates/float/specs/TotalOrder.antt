-- The order of floats: IEEE 754's totalOrder on values that are no NaN, the `u64` key that sorts by it, and the order of the values as numbers.
-- Definitions only.
use Rattle.std.specs.Prelude.{ℕ, ◌+◌, ◌-◌, ◌*◌, ◌^◌, Bool, true, false, not, cond, ◌||◌, leb, Float}
use Rattle.std.specs.Float.{nan, inf, fin, binary64}
use Rattle.std.specs.Float.Ieee.{top, lt, to_bits}
use Rattle.float.specs.Quanta.{quanta}

-- whether the sign is minus
unfoldable pub negative : Float → Bool
negative nan = false
negative (inf s) = s
negative (fin s m e) = s

-- IEEE 754, section 5.10, for values that are no NaN. (a) x below y: yes. (b) y below x: no. (c) x equal to y as a number: no at +0 and -0 in this order, otherwise yes.
unfoldable pub total_order : Float → Float → Bool
total_order x y = cond (lt x y) true (cond (lt y x) false (negative x || not (negative y)))

-- A pattern with the sign plus goes above 2^63, one with the sign minus below it, the larger the lower.
unfoldable pub key_of : ℕ → ℕ
key_of b = cond (leb (top binary64) b) (2 * top binary64 - 1 - b) (top binary64 + b)

-- The key of a float is that of its bit pattern. A NaN has the largest u64, which no other value has.
unfoldable pub order_key : Float → ℕ
unfolding key_of
order_key nan = 2 ^ 64 - 1
order_key (inf s) = key_of (to_bits binary64 (inf s))
order_key (fin s m e) = key_of (to_bits binary64 (fin s m e))

-- Where a value lies among the numbers, counted in 2^-1074 from -2^1024, where -∞ is put; +∞ is put at 2^1024. Both zeros lie at one place.
unfoldable pub place : Float → ℕ
unfolding quanta
place nan = 0
place (inf s) = cond s 0 (2 ^ 2099)
place (fin s m e) = cond s (2 ^ 2098 - quanta (fin s m e)) (2 ^ 2098 + quanta (fin s m e))
