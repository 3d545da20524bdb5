-- The law that a welded mesh is accepted: questions 1 to 5 let it pass, and so they do what `from_triangles` wrote. Its faces are the kept triangles (`faces_welded`), each corner is
-- the number of a vertex (`corners_below`), and each vertex is a finite corner (`finite_add_all`).
use Rattle.std.specs.Prelude.{ℕ, ◌+◌, ◌-◌, ◌*◌, ◌/◌, ◌%◌, ◌≤◌, Bool, true, false, cond, ◌≡◌, refl, List, [], ◌∷◌, ◌++◌, map, ltb, Float, Ok, length, take, drop}
use Rattle.std.proofs.Common.{arith, ⊎_elim, sym, ap, append_assoc, length-append, eq-or-lt_of_le, eq-eqb, le-leb, lt-ltb}
use Rattle.std.proofs.Math.Seq.{drop-append_seam}
use Rattle.lent.specs.laws.OverLaws.{take_over}
use Rattle.math.specs.declared.Vec3.{Vec3}
use Rattle.math.specs.Vectors.{is_finite, points}
use Rattle.math.specs.laws.VectorLaws.{length_points}
use Rattle.refusal.specs.Verdicts.{Passed, written}
use Rattle.refusal.specs.laws.VerdictLaws.{both}
use Rattle.mesh.specs.declared.Triangle.{Triangle}
use Rattle.mesh.specs.Triangles.{triangle}
use Rattle.mesh_questions.specs.Faces as Faces
use Rattle.mesh_questions.specs.MeshQuestions.{whole_vertices, ends_fit, faces_fit, ask_lengths, all_below, ask_face, ask_faces, ask_finite, ask_vertices, ask_parts, ask_mesh}
use Rattle.weld.specs.Welding.{find, add, add_all, degenerate, kept, faces_among, numbers, corners_of, ends_from, vertices, faces, coords, corners, ends}
use Rattle.weld.specs.WeldQuestions.{whole_triangles, ask_corners, sizes, Welds}
use Rattle.weld.specs.laws.Finding.{find_le, add_new, add_found, length_add_all, find_below}
use Rattle.weld.specs.laws.WrittenLists.{length_numbers, points_numbers, length_corners_of, corners_of_append, length_ends_from, length_faces_among}
use Rattle.weld.specs.laws.Passed.{whole_passed, triangles_passed, answer_sizes, finite_head, same_self}

-- the corners of one face
abbrev corners3 : Triangle → List ℕ
corners3 t = t.a ∷ t.b ∷ t.c ∷ []

-- question 1
whole_welded : (vs : List Vec3) → length vs ≤ 65536 → whole_vertices (numbers vs) ≡ true
unfolding whole_vertices
whole_welded vs h =
    let long = length_numbers vs in
    rw (eq-eqb (length (numbers vs) % 3) 0 (omega arith), le-leb (length (numbers vs) / 3) 65536 (omega arith))

-- question 2
ends_fit_lem : (start : ℕ) (fs : List Triangle) (n : ℕ) → n ≡ start + 3 * length fs → ends_fit start n (ends_from start fs) ≡ true
unfolding ends_fit ends_from
ends_fit_lem start [] n e = eq-eqb start n (omega arith)
ends_fit_lem start (t ∷ rest) n e = rw (le-leb start (start + 3) (omega arith)) (ends_fit_lem (start + 3) rest n (omega arith))

faces_fit_lem : (fs : List Triangle) → length fs ≤ 65536 → faces_fit (corners_of fs) (ends_from 0 fs) ≡ true
unfolding faces_fit
faces_fit_lem fs h =
    let long = length_corners_of fs in
    rw (length_ends_from 0 fs, le-leb (length fs) 65536 h, le-leb (length (corners_of fs)) 262144 (omega arith)) (ends_fit_lem 0 fs (length (corners_of fs)) (omega arith))

-- from corner `start` on the faces are the triangles
faces_welded : (pre : List ℕ) (start : ℕ) (fs : List Triangle) → start ≡ length pre → Faces.faces_from start (pre ++ corners_of fs) (ends_from start fs) ≡ map corners3 fs
unfolding Faces.faces_from corners_of ends_from
faces_welded pre start [] e = refl
faces_welded pre start (t ∷ rest) e =
    let three : start + 3 - start ≡ 3 = omega arith in
    let here : drop start (pre ++ corners_of (t ∷ rest)) ≡ corners_of (t ∷ rest) = rw e (drop-append_seam pre (corners_of (t ∷ rest))) in
    let next = faces_welded (pre ++ corners3 t) (start + 3) rest (rw length-append (omega arith)) in
    rw (three, here) (ap (λ fs. corners3 t ∷ fs) (rw append_assoc at next))

-- questions 3 and 4
faces_passed : (n number : ℕ) (fs : List Triangle) → all_below n (corners_of fs) ≡ true → ask_faces n number (map corners3 fs) ≡ Passed
unfolding all_below corners_of ask_faces ask_face
faces_passed n number [] h = refl
faces_passed n number (t ∷ rest) h =
    let a = both (ltb t.a n) _ h in
    let b = both (ltb t.b n) _ a.1 in
    let c = both (ltb t.c n) _ b.1 in
    rw (a.0, b.0, c.0) (faces_passed n (number + 1) rest c.1)

all_below_append : (n : ℕ) (k l : List ℕ) → all_below n k ≡ true → all_below n l ≡ true → all_below n (k ++ l) ≡ true
unfolding all_below
all_below_append n [] l h g = g
all_below_append n (x ∷ k) l h g =
    let parts = both (ltb x n) _ h in
    rw parts.0 (all_below_append n k l parts.1 g)

kept_below : (n : ℕ) (t : Triangle) → all_below n (corners3 t) ≡ true → all_below n (corners_of (kept t)) ≡ true
unfolding kept corners_of all_below
kept_below n t h = either (degenerate t)
  where
    either : (b : Bool) → all_below n (corners_of (cond b [] (t ∷ []))) ≡ true
    either true = refl
    either false = h

-- each corner of a face is the number of a vertex
corners_below : (vs ps : List Vec3) (m : ℕ) → ask_vertices m ps ≡ Passed → all_below (length (add_all vs ps)) (corners_of (faces_among (add_all vs ps) ps)) ≡ true
unfolding add_all faces_among corners_of all_below
corners_below vs [] m h = refl
corners_below vs (a ∷ []) m h = refl
corners_below vs (a ∷ b ∷ []) m h = refl
corners_below vs (a ∷ b ∷ c ∷ rest) m h =
    let first = finite_head m a (b ∷ c ∷ rest) h in
    let second = finite_head (m + 1) b (c ∷ rest) first.1 in
    let third = finite_head (m + 1 + 1) c rest second.1 in
    let all = add_all vs (a ∷ b ∷ c ∷ rest) in
    let n = length all in
    let t = triangle (find all a) (find all b) (find all c) in
    let at_a = lt-ltb _ n (find_below vs a (b ∷ c ∷ rest) (same_self a first.0)) in
    let at_b = lt-ltb _ n (find_below (add vs a) b (c ∷ rest) (same_self b second.0)) in
    let at_c = lt-ltb _ n (find_below (add (add vs a) b) c rest (same_self c third.0)) in
    rw corners_of_append
    (all_below_append n (corners_of (kept t)) _ (kept_below n t (rw (at_a, at_b, at_c))) (corners_below (add (add (add vs a) b) c) rest (m + 1 + 1 + 1) third.1))

-- question 5: finite points make finite vertices
finite_snoc : (m : ℕ) (vs : List Vec3) (p : Vec3) → ask_vertices m vs ≡ Passed → is_finite p ≡ true → ask_vertices m (vs ++ (p ∷ [])) ≡ Passed
unfolding ask_finite
finite_snoc m [] p h g = rw g
finite_snoc m (v ∷ rest) p h g =
    let parts = finite_head m v rest h in
    rw parts.0 (finite_snoc (m + 1) rest p parts.1 g)

finite_add : (m : ℕ) (vs : List Vec3) (p : Vec3) → ask_vertices m vs ≡ Passed → is_finite p ≡ true → ask_vertices m (add vs p) ≡ Passed
finite_add m vs p h g =
    ⊎_elim
    (λ e. rw (add_new vs p e) (finite_snoc m vs p h g))
    (λ e. rw (add_found vs p e) h)
    (eq-or-lt_of_le (find_le vs p))

finite_add_all : (m k : ℕ) (vs ps : List Vec3) → ask_vertices m vs ≡ Passed → ask_vertices k ps ≡ Passed → ask_vertices m (add_all vs ps) ≡ Passed
unfolding add_all
finite_add_all m k vs [] h g = h
finite_add_all m k vs (p ∷ rest) h g =
    let parts = finite_head k p rest g in
    finite_add_all m (k + 1) (add vs p) rest (finite_add m vs p h parts.0) parts.1

-- A welded mesh passes questions 1 to 5.
pub welded_accepted : (triangles : List Float) → whole_triangles triangles ≡ true → ask_corners triangles ≡ Passed
    → ask_mesh (coords triangles) (corners triangles) (ends triangles) ≡ Passed
unfolding ask_mesh ask_lengths ask_parts Faces.faces ask_corners ask_finite vertices faces coords corners ends
welded_accepted triangles whole finite =
    let ps = points triangles in
    let vs = add_all [] ps in
    let fs = faces_among vs ps in
    let small = whole_passed triangles whole in
    let count = length_points triangles in
    let third : length (numbers vs) / 3 ≡ length vs = omega (arith, length_numbers vs) in
    let one = whole_welded vs (omega (arith, length_add_all [] ps)) in
    let two = faces_fit_lem fs (omega (arith, length_faces_among vs ps)) in
    let three = faces_welded [] 0 fs refl in
    let four = faces_passed (length vs) 0 fs (corners_below [] ps 0 finite) in
    let five = finite_add_all 0 0 [] ps refl finite in
    rw (one, two, third, three, four, points_numbers vs) five

-- What `from_triangles` wrote, cut to the vertices and faces that it answers, passes questions 1 to 5.
pub written_accepted : (triangles coords₀ : List Float) (corners₀ ends₀ : List ℕ) (n k : ℕ) (coords₁ : List Float) (corners₁ ends₁ : List ℕ)
    → Welds triangles coords₀ corners₀ ends₀ (Ok (sizes n k)) coords₁ corners₁ ends₁
    → ask_mesh (take (3 * n) coords₁) (take (3 * k) corners₁) (take k ends₁) ≡ Passed
unfolding written coords corners ends
written_accepted triangles coords₀ corners₀ ends₀ n k coords₁ corners₁ ends₁ w =
    let sizes = answer_sizes _ triangles n k (sym w.answer) in
    let passed = sizes.0 in
    let asked = triangles_passed triangles _ _ _ passed in
    let at_coords : take (3 * n) coords₁ ≡ coords triangles = rw (w.coords, passed) (take_over (coords triangles) coords₀ (3 * n) (omega (arith, length_numbers (vertices triangles)))) in
    let at_corners : take (3 * k) corners₁ ≡ corners triangles = rw (w.corners, passed) (take_over (corners triangles) corners₀ (3 * k) (omega (arith, length_corners_of (faces triangles)))) in
    let at_ends : take k ends₁ ≡ ends triangles = rw (w.ends, passed) (take_over (ends triangles) ends₀ k (omega (arith, length_ends_from 0 (faces triangles)))) in
    rw (at_coords, at_corners, at_ends) (welded_accepted triangles asked.0 asked.1)
