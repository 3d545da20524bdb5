-- What follows if the questions pass: the lengths, and that each point is finite and so the same as itself; and which answer says that
-- they pass.
use Rattle.std.specs.Prelude.{ℕ, zero, suc, ◌+◌, ◌*◌, ◌/◌, ◌%◌, ◌≤◌, true, ◌≡◌, refl, List, [], ◌∷◌, Float, Ok, length, drop}
use Rattle.std.proofs.Common.{ap, arith, eqb-true, leb-true}
use Rattle.std.specs.Float.Ieee.{eq}
use Rattle.std.specs.Float.Ieee.Bits.{is_true}
use Rattle.float.specs.laws.Order.{finite_number, le_refl, le_antisym}
use Rattle.float.specs.Rules as Rules
use Rattle.math.specs.declared.Vec3.{Vec3}
use Rattle.math.specs.Vectors.{is_finite}
use Rattle.refusal.specs.Verdicts.{Passed, Verdict, answered}
use Rattle.refusal.specs.laws.VerdictLaws.{answered_ok, ask_passed, then_passed, both}
use Rattle.mesh_questions.specs.MeshQuestions.{ask_finite, ask_vertices}
use Rattle.weld.specs.declared.Counts.{Counts}
use Rattle.weld.specs.Welding.{same, vertices, faces}
use Rattle.weld.specs.WeldQuestions.{whole_triangles, ask_corners, weld_room, sizes, counts, ask_triangles}

-- question 1
pub whole_passed : (l : List Float) → whole_triangles l ≡ true → (length l % 9 ≡ 0) × (length l / 9 ≤ 21845)
unfolding whole_triangles
whole_passed l h =
    let parts = both _ _ h in
    (eqb-true _ _ parts.0, leb-true _ _ parts.1)

-- question 6
pub room_passed : (n coords corners ends : ℕ) → weld_room n coords corners ends ≡ true → (9 * n ≤ coords) × (3 * n ≤ corners) × (n ≤ ends)
unfolding weld_room
room_passed n coords corners ends h =
    let parts = both _ _ h in
    let two = both _ _ parts.0 in
    (leb-true _ _ two.0, leb-true _ _ two.1, leb-true _ _ parts.1)

-- the questions in a row: if all pass, each does
pub triangles_passed : (l : List Float) (coords corners ends : ℕ) → ask_triangles l coords corners ends ≡ Passed
    → (whole_triangles l ≡ true) × (ask_corners l ≡ Passed) × (weld_room (length l / 9) coords corners ends ≡ true)
unfolding ask_triangles
triangles_passed l coords corners ends h =
    let first = then_passed _ _ h in
    let second = then_passed _ _ first.1 in
    (ask_passed _ _ first.0, second.0, ask_passed _ _ second.1)

-- an answer with sizes says that the questions passed, and how many vertices and faces there are
pub answer_sizes : (v : Verdict) (triangles : List Float) (n k : ℕ) → answered v (counts triangles) ≡ Ok (sizes n k) → (v ≡ Passed) × (n ≡ length (vertices triangles)) × (k ≡ length (faces triangles))
answer_sizes v triangles n k e =
    let parts = answered_ok v (counts triangles) (sizes n k) e in
    (parts.0, ap (λ (c : Counts). c.vertices) parts.1, ap (λ (c : Counts). c.faces) parts.1)

-- the first of vertices that are all finite is, and so are the others
pub finite_head : (m : ℕ) (p : Vec3) (rest : List Vec3) → ask_vertices m (p ∷ rest) ≡ Passed → (is_finite p ≡ true) × (ask_vertices (m + 1) rest ≡ Passed)
unfolding ask_finite
finite_head m p rest h =
    let parts = then_passed _ _ h in
    (ask_passed _ _ parts.0, parts.1)

-- no vertices pass
nothing_asked : (m : ℕ) → ask_vertices m [] ≡ Passed
unfolding ask_finite
nothing_asked m = refl

-- those from vertex k on are finite
pub finite_drop : (k m : ℕ) (ps : List Vec3) → ask_vertices m ps ≡ Passed → ask_vertices (m + k) (drop k ps) ≡ Passed
finite_drop zero m ps h = let same : m + 0 ≡ m = omega arith in rw same h
finite_drop (suc k) m [] h = nothing_asked (m + suc k)
finite_drop (suc k) m (p ∷ rest) h =
    let same : m + suc k ≡ m + 1 + k = omega arith in
    rw same (finite_drop k (m + 1) rest (finite_head m p rest h).1)

-- a finite number equals itself
eq_self : (x : Float) → Rules.is_finite x ≡ true → eq x x ≡ true
unfolding Rules.is_finite
eq_self x h =
    let number = finite_number x (rw h tt) in
    is_true (eq x x) (le_antisym x x (le_refl x number) (le_refl x number))

-- a finite point is the same as itself
pub same_self : (p : Vec3) → is_finite p ≡ true → same p p ≡ true
unfolding same is_finite
same_self p h =
    let parts = both _ _ h in
    let two = both _ _ parts.0 in
    rw (eq_self p.x two.0, eq_self p.y two.1, eq_self p.z parts.1)
