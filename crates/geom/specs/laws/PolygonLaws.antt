-- The laws by which a loop over a list's numbers walks round a polygon.
use Rattle.std.specs.Prelude.{Bool, true, false, ℕ, zero, suc, ◌+◌, ◌*◌, ◌/◌, ◌<◌, ◌≡◌, refl, List, [], ◌∷◌, length, drop, Float}
use Rattle.std.proofs.Common.{arith, length-drop, drop-cons}
use Rattle.std.specs.Float.{nan}
use Rattle.std.specs.Float.Ieee.{unlike, le}
use Rattle.geom.specs.Tolerance.{tol_of, scale}
use Rattle.geom.specs.Segments.{dist_point_segment2d}
use Rattle.geom.specs.declared.Point2.{Point2}
use Rattle.geom.specs.Polygons.{points2, crosses, around, last, in_polygon, point_in_polygon, vertex}

-- from vertex k on, the polygon is vertex k and what follows it
pub points2_next : (l : List Float) (k : ℕ) → 2 * k + 1 < length l → points2 (drop (2 * k) l) ≡ vertex l k ∷ points2 (drop (2 * (k + 1)) l)
unfolding points2 vertex
points2_next l k h =
    let one : 2 * k + 1 ≡ suc (2 * k) = omega arith in
    let two : 2 * (k + 1) ≡ suc (suc (2 * k)) = omega arith in
    rw (one, two, drop-cons l (2 * k) nan (omega arith), drop-cons l (suc (2 * k)) nan (omega arith))

-- fewer than two numbers are no vertex
pub points2_short : (l : List Float) → length l < 2 → points2 l ≡ []
unfolding points2
points2_short [] h = refl
points2_short (u ∷ []) h = refl
points2_short (u ∷ v ∷ rest) h = absurd (omega arith)

-- from vertex k on, the last of n + 1 vertices is vertex k + n
last_vertex : (n : ℕ) (l : List Float) (k : ℕ) → length l / 2 ≡ k + n + 1 → last (vertex l k) (points2 (drop (2 * (k + 1)) l)) ≡ vertex l (k + n)
unfolding last
last_vertex zero l k h =
    let short : length (drop (2 * (k + 1)) l) < 2 = simp length-drop (omega arith) in
    let same : k + 0 ≡ k = omega arith in
    rw (points2_short _ short, same)
last_vertex (suc n) l k h =
    let same : k + suc n ≡ k + 1 + n = omega arith in
    rw (points2_next l (k + 1) (omega arith), same) (last_vertex n l (k + 1) (omega arith))

-- a polygon that has a vertex is walked round from its last vertex
pub point_in_polygon_around : (p : Point2) (l : List Float) (n : ℕ) → length l / 2 ≡ n + 1 → point_in_polygon p l ≡ around p (tol_of (scale l)) (vertex l n) false (points2 l)
unfolding point_in_polygon in_polygon
point_in_polygon_around p l n h =
    let same : 0 + n ≡ n = omega arith in
    rw (points2_next l 0 (omega arith), last_vertex n l 0 (omega arith), same)

-- p on the edge from vertex k to the one before it is inside
pub around_on : (p : Point2) (eps : Float) (j : Point2) (inside : Bool) (l : List Float) (k : ℕ) → 2 * k + 1 < length l → le (dist_point_segment2d p (vertex l k) j) eps ≡ true → around p eps j inside (points2 (drop (2 * k) l)) ≡ true
unfolding around
around_on p eps j inside l k h on = rw (points2_next l k, on)

-- else the walk goes on from vertex k
pub around_off : (p : Point2) (eps : Float) (j : Point2) (inside : Bool) (l : List Float) (k : ℕ) → 2 * k + 1 < length l
    → le (dist_point_segment2d p (vertex l k) j) eps ≡ false
    → around p eps j inside (points2 (drop (2 * k) l)) ≡ around p eps (vertex l k) (unlike inside (crosses p (vertex l k) j)) (points2 (drop (2 * (k + 1)) l))
unfolding around
around_off p eps j inside l k h off = rw (points2_next l k, off)

-- past the last vertex the answer stands
pub around_end : (p : Point2) (eps : Float) (j : Point2) (inside : Bool) (l : List Float) (k : ℕ) → length l < 2 * k + 2 → around p eps j inside (points2 (drop (2 * k) l)) ≡ inside
unfolding around
around_end p eps j inside l k h =
    let short : length (drop (2 * k) l) < 2 = simp length-drop (omega arith) in
    rw (points2_short _ short)
