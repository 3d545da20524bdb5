-- Laws of the lists that a mesh is written as: the numbers of vertices, the corners and the ends of faces.
use Rattle.std.specs.Prelude.{ℕ, zero, suc, ◌+◌, ◌*◌, ◌%◌, ◌≤◌, Bool, true, false, cond, ◌≡◌, refl, List, [], ◌∷◌, ◌++◌, Float, drop}
use native.Mathlib.Omega.{arith}
use Rattle.std.proofs.Common.{ap, append_assoc, length-append}
use Rattle.std.proofs.Math.ListN.{length, take}
use Rattle.std.proofs.Math.Seq.{length-take-le}
use Rattle.lent.specs.Over.{over}
use Rattle.lent.specs.laws.OverLaws.{over_own, over_over, take_over}
use Rattle.math.specs.declared.Vec3.{Vec3}
use Rattle.math.specs.Vectors.{points}
use Rattle.mesh.specs.declared.Triangle.{Triangle}
use Rattle.mesh.specs.Triangles.{triangle}
use Rattle.weld.specs.Welding.{find, degenerate, kept, faces_among, numbers, corners_of, ends_from}
use Rattle.weld.specs.steps.WeldSteps.{first}

-- a vertex has three numbers
pub length_numbers : (vs : List Vec3) → length (numbers vs) ≡ 3 * length vs
unfolding numbers
length_numbers [] = refl
length_numbers (v ∷ rest) = omega (arith, length_numbers rest)

pub numbers_append : (vs ws : List Vec3) → numbers (vs ++ ws) ≡ numbers vs ++ numbers ws
unfolding numbers
numbers_append [] ws = refl
numbers_append (v ∷ rest) ws = rw (numbers_append rest ws)

-- the points of the vertices' numbers are the vertices
pub points_numbers : (vs : List Vec3) → points (numbers vs) ≡ vs
unfolding points numbers
points_numbers [] = refl
points_numbers (v ∷ rest) = rw (points_numbers rest)

-- the numbers of a list's points are the list, if its length is a multiple of 3
numbers_points : (l : List Float) → length l % 3 ≡ 0 → numbers (points l) ≡ l
unfolding points numbers
numbers_points [] h = refl
numbers_points (x ∷ []) h = absurd (omega arith)
numbers_points (x ∷ y ∷ []) h = absurd (omega arith)
numbers_points (x ∷ y ∷ z ∷ rest) h = rw (numbers_points rest (omega arith))

-- a list's points from point n on
pub drop_points : (n : ℕ) (l : List Float) → drop n (points l) ≡ points (drop (3 * n) l)
unfolding points
drop_points zero l = refl
drop_points (suc n) l =
    let three : 3 * suc n ≡ suc (suc (suc (3 * n))) = omega arith in
    rw three (past l (drop_points n))
  where
    past : (l : List Float) → ((rest : List Float) → drop n (points rest) ≡ points (drop (3 * n) rest)) → drop (suc n) (points l) ≡ points (drop (suc (suc (suc (3 * n)))) l)
    past [] next = refl
    past (x ∷ []) next = refl
    past (x ∷ y ∷ []) next = refl
    past (x ∷ y ∷ z ∷ rest) next = next rest

-- numbers that are written over those of as many or fewer vertices hide them
pub over_numbers : (ws vs : List Vec3) (old : List Float) → length vs ≤ length ws → over (numbers ws) (over (numbers vs) old) ≡ over (numbers ws) old
over_numbers ws vs old h = over_over (numbers ws) (numbers vs) old (omega (arith, length_numbers ws, length_numbers vs))

-- the first vertices of a buffer that vertices were written over are those
pub first_over : (vs : List Vec3) (n : ℕ) (old : List Float) → n ≡ length vs → first n (over (numbers vs) old) ≡ vs
unfolding first
first_over vs n old h = rw (take_over (numbers vs) old (3 * n) (omega (arith, length_numbers vs))) (points_numbers vs)

module _ (n : ℕ) (l : List Float) (h : 3 * n ≤ length l) where
  -- the numbers of the first n vertices
  pub numbers_first : numbers (first n l) ≡ take (3 * n) l
  unfolding first
  numbers_first = numbers_points (take (3 * n) l) (rw (length-take-le (3 * n) l h) (omega arith))

  -- written over their buffer they leave it as it was
  pub over_first : over (numbers (first n l)) l ≡ l
  over_first = rw numbers_first (over_own (3 * n) l h)

  pub length_first : length (first n l) ≡ n
  length_first = omega (arith, length_numbers (first n l), ap length numbers_first, length-take-le (3 * n) l h)

-- a face has three corners
pub length_corners_of : (fs : List Triangle) → length (corners_of fs) ≡ 3 * length fs
unfolding corners_of
length_corners_of [] = refl
length_corners_of (t ∷ rest) = omega (arith, length_corners_of rest)

pub corners_of_append : (fs gs : List Triangle) → corners_of (fs ++ gs) ≡ corners_of fs ++ corners_of gs
unfolding corners_of
corners_of_append [] gs = refl
corners_of_append (t ∷ rest) gs = rw (corners_of_append rest gs)

-- a face has one end
pub length_ends_from : (start : ℕ) (fs : List Triangle) → length (ends_from start fs) ≡ length fs
unfolding ends_from
length_ends_from start [] = refl
length_ends_from start (t ∷ rest) = ap suc (length_ends_from (start + 3) rest)

pub ends_from_append : (start : ℕ) (fs gs : List Triangle) → ends_from start (fs ++ gs) ≡ ends_from start fs ++ ends_from (start + 3 * length fs) gs
unfolding ends_from
ends_from_append start [] gs = let same : start + 3 * 0 ≡ start = omega arith in rw same
ends_from_append start (t ∷ rest) gs =
    let same : start + 3 * suc (length rest) ≡ start + 3 + 3 * length rest = omega arith in
    rw (same, ends_from_append (start + 3) rest gs)

-- a triangle is kept once or not
length_kept : (t : Triangle) → length (kept t) ≤ 1
unfolding kept
length_kept t = at_most_one (degenerate t)
  where
    at_most_one : (b : Bool) → length (cond b [] (t ∷ [])) ≤ 1
    at_most_one true = omega arith
    at_most_one false = omega arith

-- the faces of points that follow k whole triangles
pub faces_among_append : (k : ℕ) (vs ps qs : List Vec3) → length ps ≡ 3 * k → faces_among vs (ps ++ qs) ≡ faces_among vs ps ++ faces_among vs qs
unfolding faces_among
faces_among_append k vs [] qs h = refl
faces_among_append k vs (a ∷ []) qs h = absurd (omega arith)
faces_among_append k vs (a ∷ b ∷ []) qs h = absurd (omega arith)
faces_among_append zero vs (a ∷ b ∷ c ∷ rest) qs h = absurd (omega arith)
faces_among_append (suc k) vs (a ∷ b ∷ c ∷ rest) qs h = rw (faces_among_append k vs rest qs (omega arith), append_assoc)

-- there are at most a third as many faces as points
pub length_faces_among : (vs ps : List Vec3) → 3 * length (faces_among vs ps) ≤ length ps
unfolding faces_among
length_faces_among vs [] = omega arith
length_faces_among vs (a ∷ []) = omega arith
length_faces_among vs (a ∷ b ∷ []) = omega arith
length_faces_among vs (a ∷ b ∷ c ∷ rest) =
    let t = triangle (find vs a) (find vs b) (find vs c) in
    simp length-append (omega (arith, length_kept t, length_faces_among vs rest))
