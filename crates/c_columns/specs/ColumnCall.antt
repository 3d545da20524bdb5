-- What the function for column text promises to C (document 01, Column text, 'The desks' viewer ..'): the number returned, and how the buffer is left. Definitions only.
use Rattle.std.specs.Prelude.{ℕ, ◌≡◌, List, length}
use Rattle.lent.specs.Over.{over}
use Rattle.refusal.specs.Verdicts.{returned}
use Rattle.column.specs.Column.{column_verdict, column_answer}

-- the refusal's number, or how many bytes the listing has; and of the buffer, lent as ₀ and left as ₁, the listing in front and the rest as it was
pub record Lists (text listing₀ : List ℕ) (result : ℕ) (listing₁ : List ℕ) : Type 0 where
  pub answer : result ≡ returned (column_verdict text (length listing₀)) (length (column_answer text (length listing₀)))
  pub listing : listing₁ ≡ over (column_answer text (length listing₀)) listing₀
