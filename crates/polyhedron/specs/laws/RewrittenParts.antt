-- The parts of a rewriting. Its faces are the renumbered faces in some order: faces that stand one after another are found again by where they end. Its
-- points are the points in some order: the new numbers of all vertices are all vertex numbers in some order.
use Rattle.std.specs.Prelude.{ℕ, ◌+◌, ◌-◌, ◌/◌, ◌<◌, ◌≡◌, refl, Float, length}
use Rattle.std.proofs.Common.{arith, sym, ap, ◌∙◌, length-append, drop_at}
use mathlib.Core.List.{List, [], ◌∷◌, ◌++◌, map, map-map, flatten, append_assoc}
use Rattle.std.specs.Float.{nan}
use Rattle.std.proofs.lemmas.List.{length-map}
use Rattle.std.proofs.Math.Seq.{take-append_seam}
use Rattle.lent.specs.Reordered.{Reordered}
use Rattle.lent.specs.laws.ReorderedLaws.{map_reordered}
use Rattle.math.specs.declared.Vec3.{Vec3}
use Rattle.math.specs.Vectors.{vec, points}
use Rattle.math.specs.laws.VectorLaws.{length_points, get_d_points}
use Rattle.mesh_questions.specs.Faces.{faces_from, faces}
use Rattle.mesh.specs.MeshBoxes.{vertex}
use Rattle.mesh.specs.Mesh.{Mesh, numbers}
use Rattle.polyhedron.specs.Rewritten.{vertex_count, ends_of, Rewritten}
use Rattle.polyhedron.specs.laws.ReorderedNumbers.{renumbered_reordered, map_numbers}

-- faces that stand one after another behind a front are found by where they end
faces_from_flatten : (front : List ℕ) (start : ℕ) (fs : List (List ℕ)) → length front ≡ start → faces_from start (front ++ flatten fs) (ends_of start fs) ≡ fs
unfolding faces_from flatten ends_of
faces_from_flatten front start [] e = refl
faces_from_flatten front start (face ∷ rest) e =
    let size : start + length face - start ≡ length face = omega arith in
    let here = drop_at front (face ++ flatten rest) start e in
    let next = faces_from_flatten (front ++ face) (start + length face) rest (rw length-append (omega arith)) in
    rw (size, here, take-append_seam face (flatten rest)) (ap (λ fs. face ∷ fs) (rw append_assoc at next))

-- renumbered faces end where the faces do
ends_of_renumbered : (s : ℕ → ℕ) (start : ℕ) (fs : List (List ℕ)) → ends_of start (map (map s) fs) ≡ ends_of start fs
unfolding ends_of
ends_of_renumbered s start [] = refl
ends_of_renumbered s start (face ∷ rest) = rw (length-map face s, ends_of_renumbered s (start + length face) rest)

-- a function that gives each vertex gives the points, vertex after vertex
points_numbers : (coords : List Float) (f : ℕ → Vec3) → ((v : ℕ) → v < length coords / 3 → f v ≡ vertex coords v) → map f (numbers 0 (length coords / 3)) ≡ points coords
unfolding vertex
points_numbers coords f at =
    let o = vec nan nan nan in
    let count = length_points coords in
    let same : (v : ℕ) → 0 + v ≡ v = λ v. omega arith in
    rw count at (map_numbers f 0 (points coords) o (λ v h. rw (same v) (at v (omega arith) ∙ sym (get_d_points coords v o (omega arith)))))

module _ {m m' : Mesh} (r : Rewritten m m') where
  faces_rewritten : faces m'.corners m'.ends ≡ map (map r.new) r.order
  unfolding faces
  faces_rewritten =
      let fs = map (map r.new) r.order in
      rw (r.corners, r.ends, ← ends_of_renumbered r.new 0 r.order) (faces_from_flatten [] 0 fs refl)

  -- the faces of a rewriting are the renumbered faces in some order
  pub faces_reordered : Reordered (map (map r.new) (faces m.corners m.ends)) (faces m'.corners m'.ends)
  faces_reordered = rw faces_rewritten (map_reordered (map r.new) r.reordered)

  -- its points are the points in some order
  pub points_reordered : Reordered (points m.coords) (points m'.coords)
  points_reordered =
      let vertex' = vertex m'.coords in
      let old = points_numbers m.coords (λ v. vertex' (r.new v)) r.moved in
      let new = rw r.long at (points_numbers m'.coords vertex' (λ v h. refl)) in
      rw (map-map, old, new) at (map_reordered vertex' (renumbered_reordered (vertex_count m) r.new r.below r.apart))
