-- The plain scan answers a rewriting of an accepted mesh as it answers the mesh (`plain_scan_rewritten`). The vertices are the same in some order, so the boxes of
-- the two meshes differ at most in the signs of zeros, which no test sees. One is closed if the other is. What the scan finds at a triangle depends on the points
-- of its corners alone, and the corner points of the triangles are the same in some order; the scan counts what it finds, and the order does not matter.
use Rattle.std.specs.Prelude.{Some, None, ℕ, suc, ◌+◌, ◌*◌, ◌/◌, ◌%◌, ◌<◌, ◌≡◌, Bool, true, cond, ◌&&◌, List, [], ◌∷◌, map, eqb, ltb, Float, length, get_or}
use Rattle.std.proofs.Common.{arith, sym, ap, ◌∙◌, refl, ltb-true, ltb-false}
use Rattle.std.proofs.Math.Path.{ap₂, fun_ext}
use Rattle.std.proofs.lemmas.Simd.{map-map}
use Rattle.std.proofs.lemmas.List.{get_or_past}
use Rattle.std.proofs.Math.Dec.{T}
use Rattle.std.specs.Float.{nan, binary64}
use Rattle.std.specs.Float.Ieee.{le, fits}
use Rattle.keys.specs.laws.SortingTheorems.{by_test, all_of}
use Rattle.lent.specs.Floats.{F64s}
use Rattle.lent.specs.Reordered.{Reordered}
use Rattle.lent.specs.laws.ReorderedLaws.{map_reordered, every_at, tally, tally_reordered}
use Rattle.math.specs.declared.Vec3.{Vec3}
use Rattle.math.specs.Vectors.{vec, at, sub, norm, is_finite, points}
use Rattle.math.specs.laws.VectorLaws.{length_points, get_d_points}
use Rattle.math.specs.BoundingBoxes.{empty, include_all}
use Rattle.mesh_questions.specs.Faces.{faces}
use Rattle.mesh.specs.Triangles.{triangle, triangles}
use Rattle.mesh.specs.MeshBoxes.{vertex, triangle_box, mesh_box, surface_eps}
use Rattle.mesh.specs.Mesh.{Mesh, triangle_at, own_box, all_triangles}
use Rattle.mesh_questions.specs.steps.Accepted.{Accepted}
use Rattle.mesh_questions.specs.laws.AcceptedLaws.{accepted}
use Rattle.mesh.specs.laws.Fans.{length_triangles}
use Rattle.mesh.specs.laws.Centers.{number_on}
use Rattle.mesh.specs.laws.Rewriting.{fans_reordered, corner_points, points_renumbered}
use Rattle.mesh.specs.laws.PermutedBoxes.{F64, F64Vec, AllF64, mesh_box_reordered, surface_eps_alike, grown_contains}
use Rattle.edges.specs.Edges.{closed}
use Rattle.edges.specs.laws.EdgeLaws.{flatten_faces}
use Rattle.edges.specs.laws.ClosedLaws.{closed_reordered, closed_renumbered}
use Rattle.scan.specs.Closest.{closest_on_triangle}
use Rattle.scan.specs.declared.rays.RayHit.{RayHit}
use Rattle.scan.specs.declared.rays.RayHit.TheVariants.{Miss}
use Rattle.scan.specs.Rays.{ray_triangle}
use Rattle.scan.specs.declared.votes.Parity.TheVariants.{Odd, Even}
use Rattle.scan.specs.Scan.{Vote, which, some, surface_passes, within, touches, ray_passes, crossing, found, is_hit, is_degenerate, vote_over, vote, votes, scan_rule, rule_answer, plain_scan}
use Rattle.scan.specs.laws.ScanLaws.{which_nothing, length_which}
use Rattle.polyhedron.specs.Rewritten.{vertex_count, Rewritten}
use Rattle.polyhedron.specs.Demand3.{IsAccepted}
use Rattle.polyhedron.specs.laws.ReorderedNumbers.{map_numbers}
use Rattle.polyhedron.specs.laws.RewrittenAccepted.{rewritten_accepted}
use Rattle.polyhedron.specs.laws.RewrittenParts.{faces_reordered, points_reordered}

-- ---- the points are f64 values

-- finite points whose coordinates are f64 values
points_f64 : (coords : List Float) → F64s coords → ((v : ℕ) → v < length coords / 3 → is_finite (at coords (3 * v)) ≡ true) → AllF64 (points coords)
unfolding vertex at
points_f64 coords f finite =
    let o = vec nan nan nan in
    let count = length_points coords in
    let number : (v axis : ℕ) → v < length coords / 3 → axis < 3 → F64 (get_or coords (3 * v + axis) nan) = λ v axis h k. record { number = number_on coords v axis k (finite v h); fit = f (3 * v + axis) } in
    let first : (v : ℕ) → 3 * v + 0 ≡ 3 * v = λ v. omega arith in
    let each : (v : ℕ) → v < length coords / 3 → F64Vec (at coords (3 * v)) = λ v h. record { x = rw (first v) at (number v 0 h (omega arith)); y = number v 1 h (omega arith); z = number v 2 h (omega arith) } in
    every_at F64Vec (points coords) o (λ v h. rw (get_d_points coords v o (omega arith)) (each v (omega arith)))

-- a mesh has the coordinates of its rewriting, so they are f64 values if those are
pub floats_rewritten : {m m' : Mesh} → IsAccepted m → Rewritten m m' → F64s m'.coords → F64s m.coords
unfolding vertex at fits
floats_rewritten {m} {m'} passed r f i =
    let whole = (accepted _ _ _ passed).lengths.whole in
    let v = i / 3 in
    let moved = r.moved v in
    by_test
    (ltb i (length m.coords))
    (λ e.
    let inside = ltb-true i (length m.coords) e in
    let same = moved (omega arith) in
    axis (i % 3) refl same)
    (λ e. rw (get_or_past m.coords i nan (ltb-false i (length m.coords) e)) tt)
  where
    axis : (k : ℕ) → i % 3 ≡ k → vertex m'.coords (r.new (i / 3)) ≡ vertex m.coords (i / 3) → T (fits binary64 (get_or m.coords i nan))
    axis ℕ.zero e same =
        let here : i ≡ 3 * (i / 3) = omega arith in
        rw (here, ← ap (λ (p : Vec3). p.x) same) (f (3 * r.new (i / 3)))
    axis (suc ℕ.zero) e same =
        let here : i ≡ 3 * (i / 3) + 1 = omega arith in
        rw (here, ← ap (λ (p : Vec3). p.y) same) (f (3 * r.new (i / 3) + 1))
    axis (suc (suc ℕ.zero)) e same =
        let here : i ≡ 3 * (i / 3) + 2 = omega arith in
        rw (here, ← ap (λ (p : Vec3). p.z) same) (f (3 * r.new (i / 3) + 2))
    axis (suc (suc (suc k))) e same = absurd (omega arith)

-- ---- counting

-- the numbers for which a test holds of what belongs to them
which_tally : {A : Type 0} (test : A → Bool) (f : ℕ → A) (l : List ℕ) → length (which (λ t. test (f t)) l) ≡ tally test (map f l)
unfolding tally
which_tally test f [] = ap length (which_nothing (λ t. test (f t)))
which_tally test f (t ∷ l) = length_which (λ t. test (f t)) t l ∙ rw (which_tally test f l)

-- ---- triangles by their corner points

-- the corner points of all triangles
abbrev all_points : Mesh → List (List Vec3)
all_points m = map (corner_points m.coords) (triangles m.corners m.ends)

-- the triangles for whose corner points a test holds
which_points : (m : Mesh) → Accepted m.coords m.corners m.ends → (test : List Vec3 → Bool) → length (which (λ t. test (corner_points m.coords (triangle_at m t))) (all_triangles m)) ≡ tally test (all_points m)
which_points m a test =
    let corners = corner_points m.coords in
    let same : (t : ℕ) → 0 + t ≡ t = λ t. omega arith in
    let each = map_numbers (triangle_at m) 0 (triangles m.corners m.ends) (triangle 0 0 0) (λ t h. rw (same t)) in
    which_tally test (λ t. corners (triangle_at m t)) (all_triangles m) ∙ rw (← length_triangles m a, ← map-map corners (triangle_at m), each)

-- whether a triangle touches the point, by its three corner points
abbrev touches_at : Float → Vec3 → List Vec3 → Bool
touches_at eps p ps = surface_passes eps p (include_all empty ps) && le (norm (sub (closest_on_triangle p (get_or ps 0 p) (get_or ps 1 p) (get_or ps 2 p)) p)) eps

-- what the ray from p in direction d finds at a triangle, by its three corner points
abbrev found_at : Vec3 → Vec3 → List Vec3 → RayHit
found_at p d ps = cond (ray_passes p d (include_all empty ps)) (ray_triangle p d (get_or ps 0 p) (get_or ps 1 p) (get_or ps 2 p)) Miss

-- the vote of so many Degenerate triangles and so many Hits
abbrev vote_of : ℕ → ℕ → Vote
vote_of degenerate hits = cond (ltb 0 degenerate) None (cond (eqb (hits % 2) 1) (Some Odd) (Some Even))

-- ---- the parts of the scan

module _ {m m' : Mesh} (a : Accepted m.coords m.corners m.ends) (a' : Accepted m'.coords m'.corners m'.ends) (r : Rewritten m m') where
  all_points_reordered : Reordered (all_points m) (all_points m')
  unfolding triangles
  all_points_reordered =
      let old = points_renumbered r.new m.coords m'.coords m.corners m.ends a r.moved in
      rw old at (map_reordered (corner_points m'.coords) (fans_reordered (faces_reordered r)))

  -- a test of corner points holds for as many triangles
  which_rewritten : (test : List Vec3 → Bool)
      → length (which (λ t. test (corner_points m'.coords (triangle_at m' t))) (all_triangles m')) ≡ length (which (λ t. test (corner_points m.coords (triangle_at m t))) (all_triangles m))
  which_rewritten test = which_points m' a' test ∙ sym (tally_reordered test all_points_reordered) ∙ sym (which_points m a test)

  touches_rewritten : (eps : Float) (p : Vec3) → some (touches m' eps p) (all_triangles m') ≡ some (touches m eps p) (all_triangles m)
  unfolding some touches within own_box triangle_box corner_points include_all
  touches_rewritten eps p = ap (ltb 0) (which_rewritten (touches_at eps p))

  vote_rewritten : (p d : Vec3) → vote m' p d ≡ vote m p d
  unfolding vote vote_over some found crossing own_box triangle_box corner_points include_all
  vote_rewritten p d = ap₂ vote_of (which_rewritten (λ ps. is_degenerate (found_at p d ps))) (which_rewritten (λ ps. is_hit (found_at p d ps)))

  closed_rewritten : closed (faces m'.corners m'.ends) ≡ closed (faces m.corners m.ends)
  closed_rewritten =
      let n = vertex_count m in
      let below = rw (← flatten_faces m.corners m.ends a.lengths.fit) at (all_of (λ v. v < n) m.corners a.below) in
      sym (closed_reordered (faces_reordered r)) ∙ closed_renumbered n r.new r.apart (faces m.corners m.ends) below

-- the step that speaks of a rewriting is that which speaks of the mesh
pub rule_rewritten : {m m' : Mesh} → F64s m.coords → IsAccepted m → Rewritten m m' → (p : Vec3) → scan_rule m' p ≡ scan_rule m p
unfolding scan_rule votes
rule_rewritten {m} {m'} f passed r p =
    let a = accepted _ _ _ passed in
    let box = mesh_box_reordered m.coords m'.coords (points_f64 m.coords f a.finite) (points_reordered r) in
    let a' = accepted _ _ _ (rewritten_accepted passed r) in
    let touched = touches_rewritten a a' r (surface_eps (mesh_box m.coords)) p in
    let cast = fun_ext (vote_rewritten a a' r p) in
    rw (← grown_contains p box, ← surface_eps_alike box, touched, closed_rewritten a a' r, cast)

-- and so is its answer
pub plain_scan_rewritten : {m m' : Mesh} → F64s m.coords → IsAccepted m → Rewritten m m' → (p : Vec3) → plain_scan m' p ≡ plain_scan m p
unfolding plain_scan
plain_scan_rewritten f passed r p = ap rule_answer (rule_rewritten f passed r p)
