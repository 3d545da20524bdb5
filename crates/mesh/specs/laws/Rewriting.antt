-- What reordering the faces and renumbering the vertices does to the triangles: the list is reordered, and each triangle keeps its
-- three points to the bit, of which its own box is computed.
use Rattle.std.specs.Prelude.{ℕ, suc, ◌/◌, ◌<◌, ◌≡◌, refl, List, [], ◌∷◌, map, Float, get_or}
use Rattle.std.proofs.Common.{arith, ap, ap₂}
use Rattle.std.proofs.lemmas.List.{map-append}
use Rattle.std.proofs.lemmas.Simd.{map-map}
use Rattle.std.proofs.Math.ListN.{length}
use Rattle.math.specs.declared.Vec3.{Vec3}
use Rattle.lent.specs.Reordered.{Reordered, none, keep, exchange, twice}
use Rattle.lent.specs.laws.ReorderedLaws.{reordered_behind, reordered_exchange}
use Rattle.mesh.specs.declared.Triangle.{Triangle}
use Rattle.mesh_questions.specs.Faces.{faces}
use Rattle.mesh.specs.Triangles.{triangle, fan_from, fan, fans, triangles}
use Rattle.mesh.specs.MeshBoxes.{vertex}
use Rattle.mesh.specs.steps.TriangleCorners.{Corners}
use Rattle.mesh_questions.specs.steps.Accepted.{Accepted}
use Rattle.mesh_questions.specs.laws.AcceptedLaws.{fanned}
use Rattle.mesh.specs.laws.Fans.{length_fanned}
use Rattle.mesh.specs.laws.CornerLaws.{triangle_corners}

-- the triangles of reordered faces are the triangles in some order
pub fans_reordered : {fs gs : List (List ℕ)} → Reordered fs gs → Reordered (fans fs) (fans gs)
unfolding fans
fans_reordered none = none
fans_reordered (keep face r) = reordered_behind (fan face) (fans_reordered r)
fans_reordered (exchange f g l) = reordered_exchange (fan f) (fan g) (fans l)
fans_reordered (twice r s) = twice (fans_reordered r) (fans_reordered s)

-- a triangle with its vertices renumbered
unfoldable pub renumbered : (ℕ → ℕ) → Triangle → Triangle
renumbered s t = triangle (s t.a) (s t.b) (s t.c)

fan_from_renumbered : (s : ℕ → ℕ) (a : ℕ) (l : List ℕ) → fan_from (s a) (map s l) ≡ map (renumbered s) (fan_from a l)
unfolding fan_from renumbered
fan_from_renumbered s a [] = refl
fan_from_renumbered s a (b ∷ []) = refl
fan_from_renumbered s a (b ∷ c ∷ rest) = ap (λ (l : List Triangle). triangle (s a) (s b) (s c) ∷ l) (fan_from_renumbered s a (c ∷ rest))

fan_renumbered : (s : ℕ → ℕ) (face : List ℕ) → fan (map s face) ≡ map (renumbered s) (fan face)
unfolding fan
fan_renumbered s [] = refl
fan_renumbered s (a ∷ rest) = fan_from_renumbered s a rest

-- the triangles of renumbered faces are the triangles renumbered
pub fans_renumbered : (s : ℕ → ℕ) (fs : List (List ℕ)) → fans (map (map s) fs) ≡ map (renumbered s) (fans fs)
unfolding fans
fans_renumbered s [] = refl
fans_renumbered s (face ∷ rest) = rw (fan_renumbered s face, fans_renumbered s rest, map-append)

-- vertex s v of the second coordinate list is vertex v of the first
abbrev pub Moved : (ℕ → ℕ) → List Float → List Float → Type 0
Moved s coords coords' = (v : ℕ) → v < length coords / 3 → vertex coords' (s v) ≡ vertex coords v

-- the points of a triangle's corners, in their order
unfoldable pub corner_points : List Float → Triangle → List Vec3
corner_points coords t = vertex coords t.a ∷ vertex coords t.b ∷ vertex coords t.c ∷ []

-- functions that agree at each element of a list
map_same : {A B : Type 0} (f g : A → B) (d : A) (l : List A) → ((k : ℕ) → k < length l → f (get_or l k d) ≡ g (get_or l k d)) → map f l ≡ map g l
map_same f g d [] h = refl
map_same f g d (x ∷ rest) h = ap₂ ◌∷◌ (h 0 (omega arith)) (map_same f g d rest (λ k i. h (suc k) (omega arith)))

-- a mesh whose vertices are renumbered, coordinates and corners alike: each of its triangles has the points that it had
module _ (s : ℕ → ℕ) (coords coords' : List Float) (corners ends : List ℕ) (mesh : Accepted coords corners ends) (moved : Moved s coords coords') where
  pub points_renumbered : map (corner_points coords') (fans (map (map s) (faces corners ends))) ≡ map (corner_points coords) (triangles corners ends)
  unfolding triangles corner_points renumbered
  points_renumbered =
      let ts = triangles corners ends in
      let d = triangle 0 0 0 in
      let long = length_fanned corners ends (fanned mesh) in
      let at : (k : ℕ) → k < length ts → Corners coords (get_or ts k d) = λ k h. triangle_corners coords corners ends mesh k d (omega arith) in
      rw (fans_renumbered s (faces corners ends), map-map)
      (map_same (λ t. corner_points coords' (renumbered s t)) (corner_points coords) d ts
      (λ k h. rw (moved (get_or ts k d).a (omega (arith, (at k h).a)), moved (get_or ts k d).b (omega (arith, (at k h).b)), moved (get_or ts k d).c (omega (arith, (at k h).c)))))
