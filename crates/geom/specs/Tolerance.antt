-- csx's tolerances (geom.rs): `tol`, `in_range`, `angle_ok`, and the largest magnitude of a list. Definitions only.
use Rattle.std.specs.Prelude.{Bool, cond, ◌&&◌, List, [], ◌∷◌, Float}
use Rattle.std.specs.Float.{binary64}
use Rattle.std.specs.Float.Ieee.{of_bits, le}
use Rattle.float.specs.Arithmetic.{◌⊕◌, ◌⊖◌, ◌⊗◌, zero}
use Rattle.float.specs.Rules.{max, abs}
use Rattle.geom.specs.Angles.{angle_in_range}

-- 1e-12, the relative tolerance
abbrev pub rel_tol : Float
rel_tol = of_bits binary64 0x3D719799812DEA11

-- 1e-300, the least magnitude
abbrev pub least_magnitude : Float
least_magnitude = of_bits binary64 0x01A56E1FC2F8F359

-- the relative tolerance times a magnitude, which counts as 1e-300 if it is smaller
unfoldable pub tol_of : Float → Float
tol_of m = rel_tol ⊗ max m least_magnitude

-- the tolerance of two numbers: that of the larger magnitude
unfoldable pub tol : Float → Float → Float
tol a b = tol_of (max (abs a) (abs b))

-- lo to hi with the larger of the interval's tolerance and the number's own
unfoldable pub between : Float → Float → Float → Bool
between v lo hi = let t = max (tol lo hi) (tol v zero) in le (lo ⊖ t) v && le v (hi ⊕ t)

-- the interval with its ends in either order
unfoldable pub in_range : Float → Float → Float → Bool
in_range v a b = cond (le a b) (between v a b) (between v b a)

-- whether an angle lies in an interval of angles
unfoldable pub angle_ok : Float → Float → Float → Bool
angle_ok a start stop = angle_in_range a start stop rel_tol

-- the largest magnitude of the list and m
unfoldable pub scale_from : Float → List Float → Float
scale_from m [] = m
scale_from m (x ∷ rest) = scale_from (max m (abs x)) rest

-- the largest magnitude of the list
unfoldable pub scale : List Float → Float
scale list = scale_from zero list
