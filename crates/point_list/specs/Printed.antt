-- What the program prints (document 01, Column text): the listing, or a header with the refusal's number and place. Definitions only.
use Rattle.std.specs.Prelude.{ℕ, ◌≡◌, cond, List, [], leb, length, Ok, Err}
use Rattle.refusal.specs.Verdicts.{Verdict}
use Rattle.lent.specs.Over.{over}
use Rattle.refusal.specs.Numbers.{number, place}
use Rattle.text.specs.Listing.{header}
use Rattle.column.specs.Column.{column_verdict, column_answer}

-- the listing unless a question refuses, else the refusal's header
unfoldable pub answer_or : Verdict → List ℕ → List ℕ
answer_or (Ok passed) listing = listing
answer_or (Err refusal) listing = header (number refusal) (place refusal)

-- what is printed for a text with room for the longest listing, 5,130 bytes; nothing with less
unfoldable pub printed : List ℕ → ℕ → List ℕ
printed text room = cond (leb 5130 room) (answer_or (column_verdict text room) (column_answer text room)) []

-- what `listing_of` promises: how many bytes are printed, and of the buffer, lent as ₀ and left as ₁, these in front and the rest as it was
pub record Prints (text listing₀ : List ℕ) (result : ℕ) (listing₁ : List ℕ) : Type 0 where
  pub bytes : result ≡ length (printed text (length listing₀))
  pub listing : listing₁ ≡ over (printed text (length listing₀)) listing₀
