-- csx's `angle_in_range` (coords.rs), in csx's order of steps. Definitions only.
use Rattle.std.specs.Prelude.{Bool, true, cond, ◌||◌, Float}
use Rattle.std.specs.Float.{binary64}
use Rattle.std.specs.Float.Ieee.{of_bits, le, lt}
use Rattle.float.specs.Arithmetic.{◌⊕◌, ◌⊖◌}
use Rattle.float.specs.Rules.{rem_euclid}

-- a full turn: Rust's TAU
abbrev pub tau : Float
tau = of_bits binary64 0x401921FB54442D18

-- whether a is within eps of the interval from lo to hi, turned by whole turns; an interval of a full turn holds every angle
unfoldable pub in_span : Float → Float → Float → Float → Bool
in_span a lo hi eps =
    let span = hi ⊖ lo in
    let d = rem_euclid (a ⊖ lo) tau in
    cond (le (tau ⊖ eps) span) true (le d (span ⊕ eps) || le (tau ⊖ eps) d)

-- the same for an interval with its ends in either order
unfoldable pub angle_in_range : Float → Float → Float → Float → Bool
angle_in_range a start stop eps = cond (lt stop start) (in_span a stop start eps) (in_span a start stop eps)
