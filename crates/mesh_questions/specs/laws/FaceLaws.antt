-- A mesh has as many faces as ends.
use Rattle.std.specs.Prelude.{ℕ, suc, ◌≡◌, refl, List, [], ◌∷◌, length}
use Rattle.std.proofs.Common.{ap}
use Rattle.mesh_questions.specs.Faces.{faces_from, faces}

length_faces_from : (start : ℕ) (corners ends : List ℕ) → length (faces_from start corners ends) ≡ length ends
unfolding faces_from
length_faces_from start corners [] = refl
length_faces_from start corners (end ∷ rest) = ap suc (length_faces_from end corners rest)

-- a mesh has as many faces as ends
pub length_faces : (corners ends : List ℕ) → length (faces corners ends) ≡ length ends
unfolding faces
length_faces corners ends = length_faces_from 0 corners ends
