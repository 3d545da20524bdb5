-- What the questions say of a mesh that they let pass.
use Rattle.std.specs.Prelude.{ℕ, zero, suc, ◌+◌, ◌-◌, ◌*◌, ◌/◌, ◌≤◌, ◌<◌, ◌≡◌, refl, Bool, true, false, List, [], ◌∷◌, leb, ltb, Float, length, get_or, take, drop, Ok, Err}
use Rattle.std.proofs.Common.{arith, length-take, length-drop, get_or-take, get_or-drop, leb-true, eqb-true, ltb-true, ltb-false}
use Rattle.std.specs.Float.{nan}
use Rattle.math.specs.declared.Vec3.{Vec3}
use Rattle.math.specs.laws.VectorLaws as VectorLaws
use Rattle.math.specs.Vectors as Vectors
use Rattle.refusal.specs.declared.Refusal.{Refusal}
use Rattle.refusal.specs.declared.Refusal.TheVariants.{ShortFace, CornerOut, NotFinite}
use Rattle.refusal.specs.Verdicts.{Passed, ask}
use Rattle.refusal.specs.laws.VerdictLaws.{ask_passed, then_passed, answered_ok, answered_err, both}
use Rattle.mesh_questions.specs.Faces.{faces, faces_from}
use Rattle.mesh_questions.specs.declared.Counts.{Counts}
use Rattle.mesh_questions.specs.MeshQuestions.{whole_vertices, ends_fit, faces_fit, ask_lengths, all_below, ask_face, ask_faces, ask_finite, ask_parts, ask_mesh}
use Rattle.mesh_questions.specs.steps.Accepted.{Lengths, counts, mesh_asked, Wide, Accepted, Fanned}
use Rattle.mesh_questions.specs.laws.QuestionLaws.{ends_fit_le}

-- wide faces have three corners each
pub wide_corners : (start corners : ℕ) (ends : List ℕ) → ends_fit start corners ends ≡ true → Wide start ends → start + 3 * length ends ≤ corners
unfolding ends_fit
wide_corners start corners [] fit wide =
    let last : start ≡ corners = eqb-true _ _ fit in
    omega arith
wide_corners start corners (end ∷ rest) fit wide = omega (arith, wide.0, wide_corners end corners rest (both (leb start end) (ends_fit end corners rest) fit).1 wide.1)

-- questions 1 and 2
pub lengths_of : (coords : List Float) (corners ends : List ℕ) → ask_lengths coords corners ends ≡ Passed → Lengths coords corners ends × (length corners ≤ 262144)
unfolding ask_lengths whole_vertices faces_fit
lengths_of coords corners ends e =
    let parts = then_passed _ _ e in
    let whole = both _ _ (ask_passed _ _ parts.0) in
    let fits = both _ _ (ask_passed _ _ parts.1) in
    let few = both _ _ fits.0 in
    (record { vertices = leb-true _ _ whole.1; whole = eqb-true _ _ whole.0; faces = leb-true _ _ few.0; fit = fits.1 }, leb-true _ _ few.1)

-- question 3: each face is wide
pub wide_of : (vertices number start : ℕ) (corners ends : List ℕ) → ends_fit start (length corners) ends ≡ true → ask_faces vertices number (faces_from start corners ends) ≡ Passed → Wide start ends
unfolding ends_fit ask_faces faces_from ask_face
wide_of vertices number start corners [] fit e = tt
wide_of vertices number start corners (end ∷ rest) fit e =
    let fits = both (leb start end) (ends_fit end (length corners) rest) fit in
    let parts = then_passed _ _ e in
    let wide : 3 ≤ length (take (end - start) (drop start corners)) = leb-true _ _ (ask_passed _ _ (then_passed _ _ parts.0).0) in
    let rises = leb-true start end fits.0 in
    let short = ends_fit_le end (length corners) rest fits.1 in
    (omega (arith, simp (length-take, length-drop) at wide), wide_of vertices (number + 1) end corners rest fits.1 parts.1)

-- corners that are all below a number are so at each place
pub below_at : (n : ℕ) (l : List ℕ) (i : ℕ) → all_below n l ≡ true → i < length l → get_or l i 0 < n
unfolding all_below
below_at n [] i e h = absurd (omega arith)
below_at n (x ∷ rest) zero e h = ltb-true x n (both (ltb x n) (all_below n rest) e).0
below_at n (x ∷ rest) (suc i) e h = below_at n rest i (both (ltb x n) (all_below n rest) e).1 (omega arith)

-- question 4: each corner is a vertex
pub below_of : (vertices number start : ℕ) (corners ends : List ℕ) → ends_fit start (length corners) ends ≡ true
    → ask_faces vertices number (faces_from start corners ends) ≡ Passed → (i : ℕ) → start ≤ i → i < length corners → get_or corners i 0 < vertices
unfolding ends_fit ask_faces faces_from ask_face
below_of vertices number start corners [] fit e i from to =
    let last : start ≡ length corners = eqb-true _ _ fit in
    absurd (omega arith)
below_of vertices number start corners (end ∷ rest) fit e i from to =
    let fits = both (leb start end) (ends_fit end (length corners) rest) fit in
    let parts = then_passed _ _ e in
    let corners_here = take (end - start) (drop start corners) in
    let here = ask (all_below vertices corners_here) (CornerOut number) in
    let face = ask_passed (all_below vertices corners_here) (CornerOut number) (then_passed (ask (leb 3 (length corners_here)) (ShortFace number)) here parts.0).1 in
    let rises = leb-true start end fits.0 in
    let short = ends_fit_le end (length corners) rest fits.1 in
    go (ltb i end) refl rises short face (λ past. below_of vertices (number + 1) end corners rest fits.1 parts.1 i past to)
  where
    go : (t : Bool) → ltb i end ≡ t → start ≤ end → end ≤ length corners → all_below vertices (take (end - start) (drop start corners)) ≡ true → (end ≤ i → get_or corners i 0 < vertices) → get_or corners i 0 < vertices
    go false past rises short face next = next (ltb-false i end past)
    go true before rises short face next =
        let h = ltb-true i end before in
        let place : start + (i - start) ≡ i = omega arith in
        let here = below_at vertices (take (end - start) (drop start corners)) (i - start) face (simp (length-take, length-drop) (omega arith)) in
        rw (get_or-take (end - start) (drop start corners) (i - start) 0 (omega arith), get_or-drop start corners (i - start) 0, place) at here

-- vectors that are asked and pass are finite
pub finite_of : (refusal : ℕ → Refusal) (number : ℕ) (vectors : List Vec3) (v : ℕ) (d : Vec3) → ask_finite refusal number vectors ≡ Passed → v < length vectors → Vectors.is_finite (get_or vectors v d) ≡ true
unfolding ask_finite
finite_of refusal number [] v d e h = absurd (omega arith)
finite_of refusal number (vector ∷ rest) zero d e h = ask_passed _ _ (then_passed _ _ e).0
finite_of refusal number (vector ∷ rest) (suc v) d e h = finite_of refusal (number + 1) rest v d (then_passed (ask (Vectors.is_finite vector) (refusal number)) (ask_finite refusal (number + 1) rest) e).1 (omega arith)

-- questions 1 to 5
pub accepted : (coords : List Float) (corners ends : List ℕ) → ask_mesh coords corners ends ≡ Passed → Accepted coords corners ends
unfolding ask_mesh ask_parts faces
accepted coords corners ends e =
    let parts = then_passed _ _ e in
    let first = lengths_of coords corners ends parts.0 in
    let lengths = first.0 in
    let rest = then_passed _ _ parts.1 in
    let origin : Vec3 = Vectors.vec nan nan nan in
    record {
      lengths = lengths;
      limit = first.1;
      wide = wide_of (length coords / 3) 0 0 corners ends lengths.fit rest.0;
      below = λ i h. below_of (length coords / 3) 0 0 corners ends lengths.fit rest.0 i (omega arith) h;
      finite = λ v h. rw (VectorLaws.get_d_points coords v origin h) at (finite_of NotFinite 0 (Vectors.points coords) v origin rest.1 (rw (VectorLaws.length_points coords) h));
    }

-- the verdict behind an answer of questions 1 to 5
pub asked_passed : (coords : List Float) (corners ends : List ℕ) (found : Counts) → mesh_asked coords corners ends ≡ Ok found → ask_mesh coords corners ends ≡ Passed
unfolding mesh_asked
asked_passed coords corners ends found e = (answered_ok _ (counts coords corners ends) found e).0

pub asked_refused : (coords : List Float) (corners ends : List ℕ) (refusal : Refusal) → mesh_asked coords corners ends ≡ Err refusal → ask_mesh coords corners ends ≡ Err refusal
unfolding mesh_asked
asked_refused coords corners ends refusal e = answered_err _ (counts coords corners ends) refusal e

-- what is known of a mesh once questions 1 to 5 are answered with counts
pub asked : (coords : List Float) (corners ends : List ℕ) (found : Counts) → mesh_asked coords corners ends ≡ Ok found → Accepted coords corners ends × (found ≡ counts coords corners ends)
unfolding mesh_asked
asked coords corners ends found e =
    let parts = answered_ok (ask_mesh coords corners ends) (counts coords corners ends) found e in
    (accepted coords corners ends parts.0, parts.1)

-- an accepted mesh has these facts
pub fanned : {coords : List Float} {corners ends : List ℕ} → Accepted coords corners ends → Fanned corners ends
fanned a = record { faces = a.lengths.faces; few = omega (arith, a.limit); fit = a.lengths.fit; wide = a.wide }
