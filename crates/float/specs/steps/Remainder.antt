-- What the steps of the remainder promise to each other. Definition only.
use Rattle.std.specs.Prelude.{◌≡◌, ◌⊎◌, ℕ, ◌+◌, ◌*◌, ◌^◌, ◌≤◌, ◌<◌}
use Rattle.float.specs.declared.remainder.Size.{Size}

-- a pattern without its sign, taken apart: the digits, one before the point unless the value is subnormal, and the exponent
pub record Parts (pattern : ℕ) (size : Size) : Type 0 where
  pub joined : pattern ≡ size.exponent * 2 ^ 52 + size.digits
  pub few : size.digits < 2 ^ 53
  pub leading : (size.exponent ≡ 0) ⊎ (2 ^ 52 ≤ size.digits)
