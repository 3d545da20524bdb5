-- A rewriting of an accepted mesh is accepted (`rewritten_accepted`). Questions 1 and 2: it has as many coordinates, faces and corners, and its faces stand one
-- after another. Questions 3 and 4 pass a face whatever its number, and renumbered as well; question 5 passes a point whatever its number. So the order of the
-- faces and of the points does not count.
use Rattle.std.specs.Prelude.{ℕ, ◌+◌, ◌<◌, ◌≡◌, true, leb, ltb, Float, length}
use Rattle.std.proofs.Common.{arith, sym, ap, ◌∙◌, length-append, eq-eqb, le-leb, ltb-true, lt-ltb}
use Rattle.std.proofs.Math.Path.{refl}
use mathlib.Core.List.{List, [], ◌∷◌, map, map-append, flatten}
use Rattle.std.proofs.lemmas.List.{length-map}
use Rattle.lent.specs.Reordered.{Reordered}
use Rattle.lent.specs.Every.{Every}
use Rattle.lent.specs.laws.ReorderedLaws.{reordered_sum, length_reordered, every_reordered, every_mapped}
use Rattle.refusal.specs.Verdicts.{Passed}
use Rattle.refusal.specs.laws.VerdictLaws.{ask_passed, then_passed, both}
use Rattle.math.specs.declared.Vec3.{Vec3}
use Rattle.math.specs.Vectors.{points, is_finite}
use Rattle.mesh_questions.specs.Faces.{faces}
use Rattle.mesh_questions.specs.laws.FaceLaws.{length_faces}
use Rattle.mesh_questions.specs.MeshQuestions.{whole_vertices, ends_fit, faces_fit, ask_lengths, all_below, ask_face, ask_faces, ask_finite, ask_vertices, ask_parts, ask_mesh}
use Rattle.mesh_questions.specs.steps.Accepted.{Accepted}
use Rattle.mesh_questions.specs.laws.AcceptedLaws.{accepted}
use Rattle.mesh.specs.Mesh.{Mesh}
use Rattle.edges.specs.laws.EdgeLaws.{flatten_faces}
use Rattle.polyhedron.specs.Rewritten.{vertex_count, ends_of, Rewritten}
use Rattle.polyhedron.specs.Demand3.{IsAccepted}
use Rattle.polyhedron.specs.laws.RewrittenParts.{faces_reordered, points_reordered}

-- ---- questions 1 and 2

-- question 1 asks only for the length
whole_vertices_long : (coords coords' : List Float) → length coords' ≡ length coords → whole_vertices coords' ≡ whole_vertices coords
unfolding whole_vertices
whole_vertices_long coords coords' e = rw e

-- the corners of renumbered faces are the renumbered corners
flatten_renumbered : (s : ℕ → ℕ) (fs : List (List ℕ)) → flatten (map (map s) fs) ≡ map s (flatten fs)
unfolding flatten
flatten_renumbered s [] = refl
flatten_renumbered s (face ∷ rest) = rw (flatten_renumbered s rest, map-append)

-- reordered faces have as many corners
flatten_reordered : {fs gs : List (List ℕ)} → Reordered fs gs → length (flatten fs) ≡ length (flatten gs)
unfolding flatten
flatten_reordered r = reordered_sum (λ fs. length (flatten fs)) length (λ face rest. length-append face (flatten rest)) r

-- the ends of faces that stand one after another never fall, and the last is the corner count
ends_of_fit : (start : ℕ) (fs : List (List ℕ)) (n : ℕ) → n ≡ start + length (flatten fs) → ends_fit start n (ends_of start fs) ≡ true
unfolding ends_fit ends_of flatten
ends_of_fit start [] n e = eq-eqb start n (omega arith)
ends_of_fit start (face ∷ rest) n e =
    rw (le-leb start (start + length face) (omega arith)) (ends_of_fit (start + length face) rest n (omega (arith, length-append face (flatten rest))))

-- question 2 of a rewriting
faces_fit_rewritten : {m m' : Mesh} → Accepted m.coords m.corners m.ends → Rewritten m m' → faces_fit m'.corners m'.ends ≡ true
unfolding faces_fit
faces_fit_rewritten {m} {m'} a r =
    let order = r.order in
    let ends : length m'.ends ≡ length m.ends = omega (arith, length_faces m'.corners m'.ends, length_faces m.corners m.ends, length_reordered (faces_reordered r), length-map (faces m.corners m.ends) (map r.new)) in
    let corners' : length m'.corners ≡ length (flatten order) = rw (r.corners, flatten_renumbered r.new order) (length-map (flatten order) r.new) in
    let corners : length (flatten order) ≡ length m.corners = sym (flatten_reordered r.reordered) ∙ ap length (flatten_faces m.corners m.ends a.lengths.fit) in
    let fit : ends_fit 0 (length m'.corners) m'.ends ≡ true = rw r.ends (ends_of_fit 0 order (length m'.corners) (omega arith)) in
    rw (fit, le-leb (length m'.ends) 65536 (omega (arith, a.lengths.faces)), le-leb (length m'.corners) 262144 (omega (arith, a.limit)))

-- ---- questions 3 to 5

-- a face that questions 3 and 4 pass, of n vertices
abbrev Good : ℕ → List ℕ → Type 0
Good n face = (leb 3 (length face) ≡ true) × (all_below n face ≡ true)

faces_good : (n number : ℕ) (fs : List (List ℕ)) → ask_faces n number fs ≡ Passed → Every (Good n) fs
unfolding ask_faces ask_face
faces_good n number [] e = tt
faces_good n number (face ∷ rest) e =
    let parts = then_passed _ _ e in
    let here = then_passed _ _ parts.0 in
    ((ask_passed _ _ here.0, ask_passed _ _ here.1), faces_good n (number + 1) rest parts.1)

good_faces : (n number : ℕ) (fs : List (List ℕ)) → Every (Good n) fs → ask_faces n number fs ≡ Passed
unfolding ask_faces ask_face
good_faces n number [] h = refl
good_faces n number (face ∷ rest) h = rw (h.0.0, h.0.1) (good_faces n (number + 1) rest h.1)

-- a point that question 5 passes
abbrev Finite : Vec3 → Type 0
Finite p = is_finite p ≡ true

points_finite : (number : ℕ) (ps : List Vec3) → ask_vertices number ps ≡ Passed → Every Finite ps
unfolding ask_finite
points_finite number [] e = tt
points_finite number (p ∷ rest) e =
    let parts = then_passed _ _ e in
    (ask_passed _ _ parts.0, points_finite (number + 1) rest parts.1)

finite_points : (number : ℕ) (ps : List Vec3) → Every Finite ps → ask_vertices number ps ≡ Passed
unfolding ask_finite
finite_points number [] h = refl
finite_points number (p ∷ rest) h = rw h.0 (finite_points (number + 1) rest h.1)

module _ (n : ℕ) (s : ℕ → ℕ) (small : (v : ℕ) → v < n → s v < n) where
  below_renumbered : (face : List ℕ) → all_below n face ≡ true → all_below n (map s face) ≡ true
  unfolding all_below
  below_renumbered [] e = refl
  below_renumbered (v ∷ face) e =
      let parts = both (ltb v n) (all_below n face) e in
      rw (lt-ltb (s v) n (small v (ltb-true v n parts.0))) (below_renumbered face parts.1)

  -- a face that passes does so renumbered
  good_renumbered : (face : List ℕ) → Good n face → Good n (map s face)
  good_renumbered face g = (rw (length-map face s) g.0, below_renumbered face g.1)

-- ---- all questions

-- a rewriting of an accepted mesh is accepted
pub rewritten_accepted : {m m' : Mesh} → IsAccepted m → Rewritten m m' → IsAccepted m'
unfolding ask_mesh ask_lengths ask_parts
rewritten_accepted {m} {m'} a r =
    let parts = then_passed _ _ a in
    let asked = then_passed _ _ parts.1 in
    let n = vertex_count m in
    let fs = faces m.corners m.ends in
    let whole = whole_vertices_long m.coords m'.coords r.long ∙ ask_passed _ _ (then_passed _ _ parts.0).0 in
    let renumbered = every_mapped (Good n) (Good n) (map r.new) fs (good_renumbered n r.new r.below) (faces_good n 0 fs asked.0) in
    let good = good_faces n 0 (faces m'.corners m'.ends) (every_reordered (Good n) (faces_reordered r) renumbered) in
    let finite = every_reordered Finite (points_reordered r) (points_finite 0 (points m.coords) asked.1) in
    rw (whole, faces_fit_rewritten (accepted _ _ _ a) r, r.long, good) (finite_points 0 (points m'.coords) finite)
