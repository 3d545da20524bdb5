-- Whether a mesh is closed, told from the keys of its edges in ascending order. Definitions only; that it is `closed` is in `PairLaws`.
use Rattle.std.specs.Prelude.{ℕ, Bool, true, false, not, ◌&&◌, List, [], ◌∷◌, eqb, ltb}

-- whether the list begins with this key
unfoldable pub starts_with : ℕ → List ℕ → Bool
starts_with key [] = false
starts_with key (first ∷ rest) = eqb first key

-- whether the keys stand in pairs: each of them twice in a row, and then another or none
unfoldable pub in_pairs : List ℕ → Bool
in_pairs [] = true
in_pairs (key ∷ []) = false
in_pairs (key ∷ second ∷ rest) = eqb second key && not (starts_with key rest) && in_pairs rest

-- whether a mesh with so many faces and these keys in ascending order is closed
unfoldable pub closed_keys : ℕ → List ℕ → Bool
closed_keys faces keys = ltb 0 faces && in_pairs keys
