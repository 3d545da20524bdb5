-- The walk over the triangles: what is written once the first i are welded (`Done`), and that one more triangle leads from i to i + 1
-- (`done_next`). A corner has the same number among the vertices so far as among all, since vertices are only added behind them.
use Prim.Native.Nat.{ℕ, ◌+◌, ◌*◌, ◌/◌, ◌%◌, ◌≤◌, ◌<◌}
use native.Mathlib.Omega.{arith}
use mathlib.Core.Path.{◌≡◌, refl, sym, ap, ◌∙◌}
use mathlib.Core.List.{List, [], ◌∷◌, ◌++◌, append-nil}
use lib.Ieee.{Float}
use lib.ListN.{length, take, drop, length-append, take-append-drop}
use lib.Seq.{take-add, take_all, length-take-le}
use Rattle.refusal.specs.Verdicts.{Passed}
use Rattle.lent.specs.Over.{over}
use Rattle.lent.specs.laws.OverLaws.{over_behind}
use Rattle.math.specs.declared.Vec3.{Vec3}
use Rattle.math.specs.Vectors.{at, points}
use Rattle.math.specs.laws.VectorLaws.{points_next, length_points}
use Rattle.mesh.specs.declared.Triangle.{Triangle}
use Rattle.mesh.specs.Triangles.{triangle}
use Rattle.weld.specs.Welding.{find, add, add_all, kept, faces_among, numbers, corners_of, ends_from, vertices, faces, coords, corners, ends}
use Rattle.weld.specs.WeldQuestions.{ask_corners}
use Rattle.weld.specs.steps.WeldSteps.{first, AddsThree, Keeps, WeldsAll}
use Rattle.weld.specs.laws.Finding.{length_add_all, add_all_append, find_welded}
use Rattle.weld.specs.laws.WrittenLists.{drop_points, over_numbers, first_over, length_corners_of, corners_of_append, length_ends_from, ends_from_append, faces_among_append, length_faces_among}
use Rattle.weld.specs.laws.Passed.{finite_head, finite_drop, same_self}

-- the corners of the first i triangles
abbrev pub passed : List Float → ℕ → List Vec3
passed triangles i = take (3 * i) (points triangles)

-- their vertices
abbrev pub vertices_to : List Float → ℕ → List Vec3
vertices_to triangles i = add_all [] (passed triangles i)

-- their faces, with the numbers of all vertices
abbrev pub faces_to : List Float → ℕ → List Triangle
faces_to triangles i = faces_among (vertices triangles) (passed triangles i)

length_passed : (l : List Float) (i : ℕ) → i ≤ length l / 9 → length (passed l i) ≡ 3 * i
length_passed l i h = length-take-le (3 * i) (points l) (omega (arith, length_points l))

pub length_vertices_to : (l : List Float) (i : ℕ) → i ≤ length l / 9 → length (vertices_to l i) ≤ 3 * i
length_vertices_to l i h = omega (arith, length_add_all [] (passed l i), length_passed l i h)

pub length_faces_to : (l : List Float) (i : ℕ) → i ≤ length l / 9 → length (faces_to l i) ≤ i
length_faces_to l i h = omega (arith, length_faces_among (vertices l) (passed l i), length_passed l i h)

-- the first length / 9 triangles are all
passed_all : (l : List Float) (i : ℕ) → length l % 9 ≡ 0 → i ≡ length l / 9 → passed l i ≡ points l
passed_all l i h e = take_all (3 * i) (points l) (omega (arith, length_points l))

-- the corners that are left begin with those of triangle i
left : (l : List Float) (i : ℕ) → i < length l / 9 → drop (3 * i) (points l) ≡ at l (9 * i) ∷ at l (9 * i + 3) ∷ at l (9 * i + 6) ∷ points (drop (9 * i + 9) l)
left l i h =
    let nine : 3 * (3 * i) ≡ 9 * i = omega arith in
    let six : 9 * i + 3 + 3 ≡ 9 * i + 6 = omega arith in
    let more : 9 * i + 6 + 3 ≡ 9 * i + 9 = omega arith in
    rw
    (drop_points (3 * i) l, nine, points_next l (9 * i) (omega arith), points_next l (9 * i + 3) (omega arith), six, points_next l (9 * i + 6) (omega arith), more)

-- the next triangle has corners a, b, c
module _ (l : List Float) (i : ℕ) (h : i < length l / 9) (a b c : Vec3) (rest : List Vec3) (e : drop (3 * i) (points l) ≡ a ∷ b ∷ c ∷ rest) where
  passed_next : passed l (i + 1) ≡ passed l i ++ (a ∷ b ∷ c ∷ [])
  passed_next =
      let three : 3 * (i + 1) ≡ 3 * i + 3 = omega arith in
      rw (three, take-add (3 * i) 3 (points l), e)

  vertices_to_next : vertices_to l (i + 1) ≡ add_all (vertices_to l i) (a ∷ b ∷ c ∷ [])
  vertices_to_next = rw (passed_next, add_all_append)

  -- all vertices are those so far with the corners that are left added
  vertices_left : vertices l ≡ add_all (vertices_to l i) (a ∷ b ∷ c ∷ rest)
  unfolding vertices
  vertices_left =
      let split : points l ≡ passed l i ++ drop (3 * i) (points l) = sym (take-append-drop (3 * i) (points l)) in
      ap (add_all []) split ∙ rw (add_all_append, e)

  faces_to_next : ask_corners l ≡ Passed
      → faces_to l (i + 1) ≡ faces_to l i ++ kept (triangle (find (vertices_to l i) a) (find (add (vertices_to l i) a) b) (find (add (add (vertices_to l i) a) b) c))
  unfolding add_all faces_among ask_corners
  faces_to_next finite =
      let vs = vertices_to l i in
      let first = finite_head _ a (b ∷ c ∷ rest) (rw e at (finite_drop (3 * i) 0 (points l) finite)) in
      let second = finite_head _ b (c ∷ rest) first.1 in
      let third = finite_head _ c rest second.1 in
      let at_a : find (vertices l) a ≡ find vs a = rw vertices_left (find_welded vs a (b ∷ c ∷ rest) (same_self a first.0)) in
      let at_b : find (vertices l) b ≡ find (add vs a) b = rw vertices_left (find_welded (add vs a) b (c ∷ rest) (same_self b second.0)) in
      let at_c : find (vertices l) c ≡ find (add (add vs a) b) c = rw vertices_left (find_welded (add (add vs a) b) c rest (same_self c third.0)) in
      rw
      (passed_next, faces_among_append i (vertices l) (passed l i) (a ∷ b ∷ c ∷ []) (length_passed l i (omega arith)), append-nil, at_a, at_b, at_c)

-- the buffers, lent as ₀, and the counts once the first i triangles are welded
pub record Done (l coords₀ : List Float) (corners₀ ends₀ : List ℕ) (i : ℕ) (coords₁ : List Float) (corners₁ ends₁ : List ℕ) (vs fs : ℕ) : Type 0 where
  pub vertices : vs ≡ length (vertices_to l i)
  pub faces : fs ≡ length (faces_to l i)
  pub coords : coords₁ ≡ over (numbers (vertices_to l i)) coords₀
  pub corners : corners₁ ≡ over (corners_of (faces_to l i)) corners₀
  pub ends : ends₁ ≡ over (ends_from 0 (faces_to l i)) ends₀

pub done_none : (l coords₀ : List Float) (corners₀ ends₀ : List ℕ) → Done l coords₀ corners₀ ends₀ 0 coords₀ corners₀ ends₀ 0 0
unfolding add_all faces_among numbers corners_of ends_from over
done_none l coords₀ corners₀ ends₀ = record { vertices = refl; faces = refl; coords = refl; corners = refl; ends = refl }

module _ (l coords₀ : List Float) (corners₀ ends₀ : List ℕ) (i : ℕ) (coords₁ : List Float) (corners₁ ends₁ : List ℕ) (vs fs : ℕ) (d : Done l coords₀ corners₀ ends₀ i coords₁ corners₁ ends₁ vs fs) where
  -- one more triangle
  pub done_next : i < length l / 9 → ask_corners l ≡ Passed
      → (t : Triangle) (vs₂ : ℕ) (coords₂ : List Float) → AddsThree (first vs coords₁) coords₁ (at l (9 * i)) (at l (9 * i + 3)) (at l (9 * i + 6)) t vs₂ coords₂
      → (fs₂ : ℕ) (corners₂ ends₂ : List ℕ) → Keeps t fs corners₁ ends₁ fs₂ corners₂ ends₂
      → Done l coords₀ corners₀ ends₀ (i + 1) coords₂ corners₂ ends₂ vs₂ fs₂
  done_next h finite t vs₂ coords₂ adds fs₂ corners₂ ends₂ keeps =
      let old = vertices_to l i in
      let before = faces_to l i in
      let same : first vs coords₁ ≡ old = rw d.coords (first_over old vs coords₀ d.vertices) in
      let added = rw same at adds in
      let corners_left = left l i h in
      let new = vertices_to_next l i h _ _ _ _ corners_left in
      let next : faces_to l (i + 1) ≡ before ++ kept t = faces_to_next l i h _ _ _ _ corners_left finite ∙ ap (λ u. before ++ kept u) (sym added.corners) in
      let start : 0 + 3 * length before ≡ 3 * fs = omega arith in
      record {
        vertices = rw new added.count;
        faces = rw (next, length-append) (omega arith);
        coords = added.coords ∙ rw (new, d.coords) (over_numbers _ old coords₀ (length_add_all old _).0);
        corners = keeps.corners ∙ rw (next, corners_of_append, d.corners) (over_behind (3 * fs) (corners_of before) _ corners₀ (omega (arith, length_corners_of before)));
        ends = keeps.ends ∙ rw (next, ends_from_append, start, d.ends) (over_behind fs (ends_from 0 before) _ ends₀ (omega (arith, length_ends_from 0 before)));
      }

  -- all are welded
  pub done_all : length l % 9 ≡ 0 → i ≡ length l / 9 → WeldsAll l coords₀ corners₀ ends₀ (record { vertices = vs; faces = fs }) coords₁ corners₁ ends₁
  unfolding vertices faces coords corners ends
  done_all whole e =
      let all = passed_all l i whole e in
      record { vertices = rw all at d.vertices; faces = rw all at d.faces; coords = rw all at d.coords; corners = rw all at d.corners; ends = rw all at d.ends }
