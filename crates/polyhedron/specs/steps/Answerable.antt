-- What the answers to a list's points take for granted. Definition only.
use Rattle.std.specs.Prelude.{ℕ, ◌*◌, ◌/◌, ◌<◌, ◌≡◌, true, List, Float, length}
use Rattle.math.specs.Vectors.{at, is_finite}

-- what `answer_points` takes for granted: finite points, and a place for each answer
pub record Answerable (list : List Float) (places : ℕ) : Type 0 where
  pub finite : (i : ℕ) → i < length list / 3 → is_finite (at list (3 * i)) ≡ true
  pub enough : places ≡ length list / 3
