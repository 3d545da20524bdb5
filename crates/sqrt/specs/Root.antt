-- The square root of a binary64 value, rounded to nearest: how it is computed, and what IEEE 754 asks of it. Definitions only.
use Rattle.std.specs.Prelude.{ℕ, zero, suc, ◌+◌, ◌-◌, ◌*◌, ◌/◌, ◌^◌, ◌<◌, true, false, not, cond, T, leb, Float}
use Rattle.std.specs.Float.{nan, inf, fin, binary64}
use Rattle.std.specs.Float.Ieee.{size, odd, fits, lt}
use Rattle.std.specs.Float.Ieee.Scale.{finite}
use Rattle.float.specs.Rules.{zero64}
use Rattle.float.specs.Quanta.{quanta}
use Rattle.float.specs.TotalOrder.{negative}

-- ---- how it is computed

-- the root r of n / 4, with the next binary digit of the root of n
unfoldable pub digit : ℕ → ℕ → ℕ
digit n r = cond (leb ((2 * r + 1) * (2 * r + 1)) n) (2 * r + 1) (2 * r)

-- the largest whole number whose square is at most n, for an n below 4^d: d binary digits
unfoldable pub isqrt : ℕ → ℕ → ℕ
unfolding digit
isqrt zero n = 0
isqrt (suc d) n = digit n (isqrt d (n / 4))

-- The whole number nearest to the root of v, for a v below 4^53: half the root of 4 v, rounded. The root of v is never halfway between two.
unfoldable pub nearest_root : ℕ → ℕ
unfolding isqrt
nearest_root v = (isqrt 54 (4 * v) + 1) / 2

-- The root of n quanta, in quanta: the root of n * 2^1074. It is rounded to 53 binary digits, followed by k zeros.
unfoldable pub root_of : ℕ → Float
unfolding nearest_root size odd
root_of n =
    let v = n * 2 ^ 1074 in
    let k = (size v - 105) / 2 in
    odd 53 false (nearest_root (v / 4 ^ k)) k 1074

-- IEEE 754's square root: of a positive number as above, of a zero that zero, of +∞ that, of NaN and negative numbers NaN
unfoldable pub root : Float → Float
unfolding root_of quanta
root nan = nan
root (inf true) = nan
root (inf false) = inf false
root (fin s zero e) = fin s zero e
root (fin true (suc m) e) = nan
root (fin false (suc m) e) = root_of (quanta (fin false (suc m) e))

-- ---- what IEEE 754 asks of it, for an x that is finite and above zero (section 5.4.1, roundTiesToEven)

-- Of all values of the format r is the nearest to the real root of x. There are no reals here, so the real root is compared with the midpoint of r and any other value y
-- through squares: (y + r) / 2 is below the root where (y + r)^2 is below 4 x. All are counted in quanta, of which the root's square has `quanta x * 2^1074`.
-- No y gives a tie. A y with the sign minus is no nearer than +0 is.
pub record IsNearestRoot (x r : Float) : Type 0 where
  pub held : T (fits binary64 r)
  pub finite_too : T (finite r)
  pub above_zero : T (lt zero64 r)
  pub below : (y : Float) → T (fits binary64 y) → T (not (negative y)) → T (lt y r) → (quanta y + quanta r) * (quanta y + quanta r) < 4 * (quanta x * 2 ^ 1074)
  pub above : (y : Float) → T (fits binary64 y) → T (finite y) → T (lt r y) → 4 * (quanta x * 2 ^ 1074) < (quanta y + quanta r) * (quanta y + quanta r)
