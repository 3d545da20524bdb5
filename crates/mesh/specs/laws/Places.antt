-- The places that questions 1 to 5 name are below 1,000,000, so that a refusal can be read back from the number that a C function returns.
use Rattle.std.specs.Prelude.{ℕ, ◌+◌, ◌/◌, ◌≤◌, ◌<◌, ◌≡◌, refl, Bool, List, [], ◌∷◌, leb, length}
use Rattle.std.proofs.Common.{arith}
use Rattle.refusal.specs.declared.Refusal.{Refusal}
use Rattle.refusal.specs.declared.Refusal.TheVariants as Refusals
use Rattle.refusal.specs.Numbers.{place}
use Rattle.refusal.specs.Verdicts.{ask, then}
use Rattle.refusal.specs.laws.Places.{Below, below_passed, below_ask, below_then}
use Rattle.math.specs.declared.Vec3.{Vec3}
use Rattle.math.specs.Vectors as Vectors
use Rattle.math.specs.laws.VectorLaws as VectorLaws
use Rattle.mesh_questions.specs.Faces.{faces}
use Rattle.mesh_questions.specs.laws.FaceLaws.{length_faces}
use Rattle.mesh.specs.Mesh.{Mesh}
use Rattle.mesh_questions.specs.MeshQuestions.{whole_vertices, faces_fit, all_below, ask_lengths, ask_face, ask_faces, ask_finite, ask_vertices, ask_parts, ask_mesh}
use Rattle.mesh_questions.specs.steps.Accepted.{Lengths}
use Rattle.mesh_questions.specs.laws.AcceptedLaws.{lengths_of}

-- questions 3 and 4 of faces
below_face : (vertices number : ℕ) (face : List ℕ) → number < 1000000 → Below (ask_face vertices number face)
unfolding ask_face
below_face vertices number face h =
    below_then (ask (leb 3 (length face)) (Refusals.ShortFace number)) (ask (all_below vertices face) (Refusals.CornerOut number))
    (below_ask (leb 3 (length face)) (Refusals.ShortFace number) h)
    (λ e. below_ask (all_below vertices face) (Refusals.CornerOut number) h)

below_faces : (vertices number : ℕ) (l : List (List ℕ)) → number + length l ≤ 65536 → Below (ask_faces vertices number l)
unfolding ask_faces
below_faces vertices number [] h = below_passed
below_faces vertices number (face ∷ l) h =
    below_then (ask_face vertices number face) (ask_faces vertices (number + 1) l) (below_face vertices number face (omega arith)) (λ e. below_faces vertices (number + 1) l (omega (arith, h)))

-- questions 5 and 9
pub below_finite : (refusal : ℕ → Refusal) → ((n : ℕ) → place (refusal n) ≡ n) → (number : ℕ) (l : List Vec3) → number + length l ≤ 65536 → Below (ask_finite refusal number l)
unfolding ask_finite
below_finite refusal same number [] h = below_passed
below_finite refusal same number (v ∷ l) h =
    below_then (ask (Vectors.is_finite v) (refusal number)) (ask_finite refusal (number + 1) l)
    (below_ask (Vectors.is_finite v) (refusal number) (omega (arith, same number)))
    (λ e. below_finite refusal same (number + 1) l (omega (arith, h)))

-- questions 1 to 5
below_lengths : (m : Mesh) → Below (ask_lengths m.coords m.corners m.ends)
unfolding ask_lengths
below_lengths m =
    below_then (ask (whole_vertices m.coords) Refusals.Coordinates) (ask (faces_fit m.corners m.ends) Refusals.Faces)
    (below_ask (whole_vertices m.coords) Refusals.Coordinates (omega arith))
    (λ e. below_ask (faces_fit m.corners m.ends) Refusals.Faces (omega arith))

below_parts : (m : Mesh) → Lengths m.coords m.corners m.ends → Below (ask_parts m.coords m.corners m.ends)
unfolding ask_parts
below_parts m lengths =
    let vertices = length m.coords / 3 in
    let l = faces m.corners m.ends in
    below_then (ask_faces vertices 0 l) (ask_vertices 0 (Vectors.points m.coords))
    (below_faces vertices 0 l (omega (arith, length_faces m.corners m.ends, lengths.faces)))
    (λ e. below_finite Refusals.NotFinite (λ n. refl) 0 (Vectors.points m.coords) (omega (arith, VectorLaws.length_points m.coords, lengths.vertices)))

pub below_mesh : (m : Mesh) → Below (ask_mesh m.coords m.corners m.ends)
unfolding ask_mesh
below_mesh m =
    below_then (ask_lengths m.coords m.corners m.ends) (ask_parts m.coords m.corners m.ends) (below_lengths m) (λ e. below_parts m (lengths_of m.coords m.corners m.ends e).0)

-- and 6
pub below_room : (m : Mesh) (passed : Bool) → Below (then (ask_mesh m.coords m.corners m.ends) (ask passed Refusals.Room))
below_room m passed =
    below_then (ask_mesh m.coords m.corners m.ends) (ask passed Refusals.Room) (below_mesh m) (λ e. below_ask passed Refusals.Room (omega arith))
