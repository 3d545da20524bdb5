-- What filling a list from the lines of a text takes for granted. Definition only.
use Rattle.std.specs.Prelude.{ℕ, ◌*◌, ◌/◌, ◌≤◌, ◌<◌, ◌≡◌, Bool, true, Option, List, length}
use Rattle.text.specs.declared.fields.Number.{Number}
use Rattle.text.specs.Lines.{all_three}
use Rattle.text.specs.steps.LineAt.{line_at}

-- what filling a list takes for granted: whole lines whose numbers all pass a test, and three places for each line
pub record Whole (test : Option Number → Bool) (text : List ℕ) (places : ℕ) : Type 0 where
  pub whole : length text ≡ 36 * (length text / 36)
  pub each : (i : ℕ) → i < length text / 36 → (length (line_at text i) ≡ 36) × (all_three test (line_at text i) ≡ true)
  pub room : 3 * (length text / 36) ≤ places
