-- Where triangle t of a mesh is found. Definitions only.
use Rattle.std.specs.Prelude.{ℕ, zero, suc, ◌+◌, ◌*◌, ◌≤◌, ◌<◌, Bool, true, cond, ◌&&◌, ◌≡◌, List, [], ◌∷◌, eqb, length, get_or}
use Rattle.mesh.specs.declared.Sides.{Sides}
use Rattle.mesh.specs.declared.Sides.TheVariants.{Three, Four, Mixed}

-- where the corners of face f begin, for faces whose corners begin at place `start`
unfoldable pub start_from : ℕ → List ℕ → ℕ → ℕ
start_from start ends zero = start
start_from start [] (suc f) = start
start_from start (end ∷ rest) (suc f) = start_from end rest f

-- whether every face has this many corners, the first beginning at place `start`
unfoldable pub equal_faces : ℕ → ℕ → List ℕ → Bool
equal_faces sides start [] = true
equal_faces sides start (end ∷ rest) = eqb end (start + sides) && equal_faces sides end rest

-- whether every face has three corners, or four
unfoldable pub sides : List ℕ → Sides
sides ends = cond (equal_faces 3 0 ends) Three (cond (equal_faces 4 0 ends) Four Mixed)

-- that triangle t is one of face f: it does not come before the face's first triangle, nor after its last
pub record InFace (ends : List ℕ) (t f : ℕ) : Type 0 where
  pub face : f < length ends
  pub from : start_from 0 ends f ≤ t + 2 * f
  pub to : t + 2 * f + 2 < get_or ends f 0

-- what is known where triangle t is looked for: the faces end at the corner count, which is triangles + 2 · faces
pub record Placed (ends : List ℕ) (triangles t : ℕ) : Type 0 where
  pub faces : length ends ≤ 65536
  pub last : start_from 0 ends (length ends) ≡ triangles + 2 * length ends
  pub few : triangles ≤ 4294967296
  pub triangle : t < triangles
