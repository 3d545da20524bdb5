-- What the builder's functions take for granted of the items of a node. Definition only.
use Rattle.std.specs.Prelude.{ℕ, ◌<◌, List, get_or}

-- items are numbers of 32 bits
abbrev pub Small : List ℕ → Type 0
Small items = (j : ℕ) → get_or items j 0 < 4294967296
