-- What holds of every element of a list (document 01 leaves edge keys ascending: `Sorting` says so with it). Definition only.
use Rattle.std.specs.Prelude.{List, [], ◌∷◌}

-- P holds of every element
abbrev pub Every : {A : Type 0} → (A → Type 0) → List A → Type 0
Every P [] = Unit {0}
Every P (x ∷ l) = P x × Every P l
