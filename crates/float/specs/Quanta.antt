-- The size of a finite value of IEEE 754's binary64 as a whole number. Definition only.
use Rattle.std.specs.Prelude.{ℕ, ◌*◌, ◌/◌, ◌^◌, Float}
use Rattle.std.specs.Float.{nan, inf, fin}
use Rattle.std.specs.Float.Ieee.{up, down}

-- how often a finite value holds the smallest positive one, 2^-1074, its sign aside
unfoldable pub quanta : Float → ℕ
quanta nan = 0
quanta (inf s) = 0
quanta (fin s m e) = m * up e * 2 ^ 1074 / down e
