-- What the steps of the square root promise to each other. Definitions only.
use Rattle.std.specs.Prelude.{◌≡◌, ℕ, ◌+◌, ◌*◌, ◌%◌, ◌^◌, ◌≤◌, ◌<◌, Option, Some, None}
use Rattle.sqrt.specs.declared.Scaled.{Scaled}
use Rattle.sqrt.specs.Root.{nearest_root}
use Rattle.float.specs.laws.OrderTheorems.Pattern.{magnitude}

-- the check of a guess: a number that is given is the one nearest to the root of v
abbrev pub Finds : ℕ → Option ℕ → Type 0
Finds v (Some q) = q ≡ nearest_root v
Finds v None = Unit {0}

-- the value with these bits, taken apart into 53 digits and an exponent
pub record Scales (bits : ℕ) (s : Scaled) : Type 0 where
  pub value : magnitude bits * 2 ^ 1074 ≡ (2 ^ 52 + s.digits % 2 ^ 52) * 2 ^ s.g
  pub low : 52 ≤ s.g
  pub high : s.g < 4096
