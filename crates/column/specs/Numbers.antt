-- What the numbers of column text become (document 01, Column text): floats, vertex numbers and face ends. Definitions only.
use Rattle.std.specs.Prelude.{ℕ, zero, suc, ◌+◌, cond, Option, Some, None, List, [], ◌∷◌, pos, Float}
use Rattle.std.specs.Float.{nan, binary64}
use Rattle.std.specs.Float.Ieee.{neg, of_int}
use Rattle.text.specs.declared.fields.Number.{Number}
use Rattle.text.specs.Lines.{number_at}

-- a count of nanometres becomes a float unchanged
unfoldable pub float_of : Option Number → Float
float_of None = nan
float_of (Some count) = cond count.negative (neg (of_int binary64 (pos count.magnitude))) (of_int binary64 (pos count.magnitude))

-- a corner becomes a vertex number
unfoldable pub corner_of : Option Number → ℕ
corner_of None = 0
corner_of (Some corner) = corner.magnitude

-- the three numbers of each line, and what they become
unfoldable pub numbers_of : {A : Type 0} → (Option Number → A) → List (List ℕ) → List A
numbers_of become [] = []
numbers_of become (line ∷ rest) =
    become (number_at 0 line) ∷ become (number_at 1 line) ∷ become (number_at 2 line) ∷ numbers_of become rest

-- the face ends of so many triangles behind so many corners
unfoldable pub ends_from : ℕ → ℕ → List ℕ
ends_from corners zero = []
ends_from corners (suc triangles) = (corners + 3) ∷ ends_from (corners + 3) triangles
