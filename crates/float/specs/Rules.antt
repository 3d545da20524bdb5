-- What Rust's standard library does with floats where csx calls it, over `lib.Ieee`, with document 01's choice of zeros.
-- Definitions only.
use Rattle.std.specs.Prelude.{Bool, false, cond, ◌||◌, Float, pos}
use Rattle.std.specs.Float.{nan, inf, fin, binary64}
use Rattle.std.specs.Float.Ieee.{add, rem, lt, ne}
use Rattle.std.specs.Float.Ieee.Scale.{finite}

-- zero with the sign plus
abbrev pub zero64 : Float
zero64 = fin false 0 (pos 0)

-- the smaller of the two: of two equal zeros the left one, of a NaN and a number the number
unfoldable pub min : Float → Float → Float
min a b = cond (lt b a || ne a a) b a

-- the larger of the two, with the same choices
unfoldable pub max : Float → Float → Float
max a b = cond (lt a b || ne a a) b a

-- the sign cleared
unfoldable pub abs : Float → Float
abs nan = nan
abs (inf s) = inf false
abs (fin s m e) = fin false m e

-- lo where x is below it, then hi where that is above it; a NaN stays
unfoldable pub clamp : Float → Float → Float → Float
clamp x lo hi = let y = cond (lt x lo) lo x in cond (lt hi y) hi y

-- neither infinite nor NaN
unfoldable pub is_finite : Float → Bool
is_finite x = finite x

-- a % b, moved up by |b| where it is negative
unfoldable pub rem_euclid : Float → Float → Float
rem_euclid a b = let r = rem binary64 a b in cond (lt r zero64) (add binary64 r (abs b)) r
