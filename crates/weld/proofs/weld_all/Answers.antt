use Rattle.std.proofs.Common.{◌≡◌, ℕ, zero, suc, ◌+◌, ◌*◌, ◌/◌, ◌<◌, List, [], length, get_or, take, drop, drop-drop, refl, ◌∙◌, arith, rules}
use Rattle.std.proofs.Math.Seq.{get_or-take, get_or-drop}
use Rattle.std.specs.Prelude.{Float}
use Rattle.std.specs.Float.{nan}
use Rattle.std.specs.Simd.{first_chunks}
use Rattle.math.specs.Vectors.{at}
use Rattle.weld.specs.laws.Passed.{whole_passed, room_passed}
use Rattle.weld.proofs.Walk.{done_none, done_next, done_all, length_vertices_to, length_faces_to}
use Rattle.weld.proofs.weld_all.Goals as goal

-- triangle i has nine numbers of the list, from place 9 i on
ninth : (k i : ℕ) (l : List Float) → i < k → get_or (first_chunks 9 k l) i [] ≡ take 9 (drop (9 * i) l)
ninth zero i l h = absurd (omega arith)
ninth (suc k) zero l h = refl
ninth (suc k) (suc i) l h =
    let sum : 9 + 9 * i ≡ 9 * suc i = omega arith in
    ninth k i (drop 9 l) (omega arith) ∙ rw (drop-drop (9 * i) 9 l, sum)

at_ninth : (l : List Float) (m j : ℕ) → j + 2 < 9 → at (take 9 (drop m l)) j ≡ at l (m + j)
unfolding at
at_ninth l m j h =
    let read = λ (k : ℕ) (b : k < 9). get_or-take 9 (drop m l) k nan b ∙ get_or-drop m l k nan in
    let one : m + (j + 1) ≡ m + j + 1 = omega arith in
    let two : m + (j + 2) ≡ m + j + 2 = omega arith in
    rw (read j (omega arith), read (j + 1) (omega arith), read (j + 2) (omega arith), one, two)

corner : (l : List Float) (all : List (List Float)) (i j : ℕ) → all ≡ first_chunks 9 (length l / 9) l → i < length l / 9 → j + 2 < 9
    → at (get_or all i []) j ≡ at l (9 * i + j)
corner l all i j e h b = rw (e, ninth (length l / 9) i l h) (at_ninth l (9 * i) j b)

pub loop-triangle-init : goal.loop-triangle-init
loop-triangle-init c =
    let none : (c.default-counts.result.vertices ≡ 0) × (c.default-counts.result.faces ≡ 0) = search rules in
    rw (none.0, none.1) (done_none _ _ _ _)

pub add_corners-t-requires : goal.add_corners-t-requires
add_corners-t-requires c =
    let a = c.args in
    let whole = whole_passed a.triangles.now c.requires.whole in
    let room = room_passed (length a.triangles.now / 9) _ _ _ c.requires.room in
    omega (arith, length_vertices_to a.triangles.now c.loop-triangle.triangle-index (omega arith))

pub keep_triangle-requires : goal.keep_triangle-requires
keep_triangle-requires c =
    let a = c.args in
    let whole = whole_passed a.triangles.now c.requires.whole in
    let room = room_passed (length a.triangles.now / 9) _ _ _ c.requires.room in
    omega (arith, length_faces_to a.triangles.now c.loop-triangle.triangle-index (omega arith))

pub loop-triangle-preserved : goal.loop-triangle-preserved
loop-triangle-preserved c =
    let l = c.args.triangles.now in
    let all = c.as_chunks.result.0.now in
    let i = c.loop-triangle.triangle-index in
    let e = c.as_chunks.ensures.front in
    let h : i < length l / 9 = omega arith in
    let start : 9 * i + 0 ≡ 9 * i = omega arith in
    let adds = rw (corner l all i 0 e h (omega arith), corner l all i 3 e h (omega arith), corner l all i 6 e h (omega arith), start) at c.add_corners-t.ensures in
    done_next _ _ _ _ _ _ _ _ _ _ c.loop-triangle.invariant h c.requires.finite _ _ _ adds _ _ _ c.keep_triangle.ensures

pub returns : goal.returns
returns c = done_all _ _ _ _ _ _ _ _ _ _ c.loop-triangle.invariant (whole_passed c.args.triangles.now c.requires.whole).0 (omega arith)
