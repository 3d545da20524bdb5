-- Listings (document 01, Column text): a header of refusal number and place, then a row of point number and answer for each point. Definitions only.
use Rattle.std.specs.Prelude.{ℕ, ◌+◌, ◌-◌, ◌*◌, false, List, [], ◌∷◌, ◌++◌}
use Rattle.text.specs.Fields.{line_feed, field_text}

-- a line of a listing: a number at this width, one at what is left of 9, and a line feed
unfoldable pub listing_line : ℕ → ℕ → ℕ → List ℕ
listing_line width a b = field_text false width a ++ (field_text false (9 - width) b ++ (line_feed ∷ []))

-- the header: refusal number (width 3) and place (width 6)
unfoldable pub header : ℕ → ℕ → List ℕ
header number place = listing_line 3 number place

-- the rows: point number (width 6), from this one on, and answer (width 3)
unfoldable pub rows : ℕ → List ℕ → List ℕ
rows point [] = []
rows point (answer ∷ rest) = listing_line 6 point answer ++ rows (point + 1) rest

-- the listing of these answers: the header with both numbers 0, and a row for each
unfoldable pub listing_text : List ℕ → List ℕ
listing_text answers = header 0 0 ++ rows 0 answers

-- how many bytes the listing of so many answers has
unfoldable pub listing_length : ℕ → ℕ
listing_length answers = 10 + 10 * answers
