-- How many triangles the fans of a mesh have.
use Rattle.std.specs.Prelude.{ℕ, ◌+◌, ◌-◌, ◌*◌, ◌≡◌, refl, true, List, [], ◌∷◌, leb, length, take, drop}
use Rattle.std.proofs.Common.{arith, ◌∙◌, length-append, length-take, length-drop, eqb-true}
use Rattle.refusal.specs.laws.VerdictLaws.{both}
use Rattle.mesh_questions.specs.Faces.{faces, faces_from}
use Rattle.mesh_questions.specs.Mesh.{Mesh, triangle_count}
use Rattle.mesh_questions.specs.MeshQuestions.{ends_fit}
use Rattle.mesh_questions.specs.laws.QuestionLaws.{ends_fit_le}
use Rattle.mesh_questions.specs.steps.Accepted.{Wide, Accepted, Fanned}
use Rattle.mesh_questions.specs.laws.AcceptedLaws.{fanned}
use Rattle.mesh.specs.Triangles.{fan_from, fan, fans, triangles}

-- the triangles of a face: two fewer than its corners
pub length_fan_from : (a : ℕ) (l : List ℕ) → length (fan_from a l) ≡ length l - 1
unfolding fan_from
length_fan_from a [] = refl
length_fan_from a (b ∷ []) = refl
length_fan_from a (b ∷ c ∷ rest) = omega (arith, length_fan_from a (c ∷ rest))

pub length_fan : (face : List ℕ) → length (fan face) ≡ length face - 2
unfolding fan
length_fan [] = refl
length_fan (a ∷ rest) = omega (arith, length_fan_from a rest)

-- the triangles are corners − 2 · faces
pub length_fans : (start : ℕ) (corners ends : List ℕ) → ends_fit start (length corners) ends ≡ true → Wide start ends → length (fans (faces_from start corners ends)) + 2 * length ends + start ≡ length corners
unfolding fans faces_from ends_fit
length_fans start corners [] fit wide =
    let last : start ≡ length corners = eqb-true _ _ fit in
    omega arith
length_fans start corners (end ∷ rest) fit wide =
    let fits = both (leb start end) (ends_fit end (length corners) rest) fit in
    let short = ends_fit_le end (length corners) rest fits.1 in
    let face = take (end - start) (drop start corners) in
    let here : length (fan face) ≡ end - start - 2 = length_fan face ∙ simp (length-take, length-drop) (omega arith) in
    omega (arith, length-append (fan face) (fans (faces_from end corners rest)), here, wide.0, length_fans end corners rest fits.1 wide.1)

pub length_fanned : (corners ends : List ℕ) → Fanned corners ends → length (triangles corners ends) ≡ length corners - 2 * length ends
unfolding triangles faces
length_fanned corners ends f = omega (arith, length_fans 0 corners ends f.fit f.wide)

-- so many triangles are in the fans of an accepted mesh
pub length_triangles : (m : Mesh) → Accepted m.coords m.corners m.ends → length (triangles m.corners m.ends) ≡ triangle_count m
length_triangles m a = length_fanned m.corners m.ends (fanned a)
