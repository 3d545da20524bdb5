-- The faces of a lent mesh (document 01, Mesh rule): `corners` has the vertex numbers, face after face, and `ends` says where each face ends. Definitions only.
use Rattle.std.specs.Prelude.{ℕ, ◌-◌, List, [], ◌∷◌, take, drop}

-- the faces whose corners begin at place `start`
unfoldable pub faces_from : ℕ → List ℕ → List ℕ → List (List ℕ)
faces_from start corners [] = []
faces_from start corners (end ∷ ends) = take (end - start) (drop start corners) ∷ faces_from end corners ends

-- the faces: for each its corners in their order
unfoldable pub faces : List ℕ → List ℕ → List (List ℕ)
faces corners ends = faces_from 0 corners ends
