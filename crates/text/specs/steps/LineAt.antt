-- A line of a text by its number. Definition only.
use Rattle.std.specs.Prelude.{ℕ, ◌*◌, List, take, drop}

-- line i of a text, from 0
unfoldable pub line_at : List ℕ → ℕ → List ℕ
line_at text i = take 36 (drop (36 * i) text)
