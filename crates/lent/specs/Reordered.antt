-- One list is another in some order (document 01, Mesh rule: reordered faces). Definitions only.
use Rattle.std.specs.Prelude.{List, [], ◌∷◌}

-- l and m have the same elements, each as often, in some order: m comes from l by exchanging neighbours
pub data Reordered {A : Type 0} : List A → List A → Type 0 where
  none : Reordered [] []
  keep : (x : A) {l m : List A} → Reordered l m → Reordered (x ∷ l) (x ∷ m)
  exchange : (x y : A) (l : List A) → Reordered (x ∷ y ∷ l) (y ∷ x ∷ l)
  twice : {l m n : List A} → Reordered l m → Reordered m n → Reordered l n
