-- A law of the items behind a place.
use Rattle.std.specs.Prelude.{ℕ, ◌-◌, ◌≡◌, List, length, take, drop}
use Rattle.std.proofs.Common.{arith, length-drop}
use lib.Seq.{take_all}

-- the items from place k on, cut where the items end
pub behind : (items : List ℕ) (k : ℕ) → take (length items - k) (drop k items) ≡ drop k items
behind items k = take_all (length items - k) (drop k items) (omega (arith, length-drop k items))
