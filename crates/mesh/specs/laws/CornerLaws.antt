-- The corners of every triangle of an accepted mesh are finite vertices: a triangle of a fan has its corners from one face, and a face has its
-- corners from the mesh.
use Rattle.std.specs.Prelude.{ℕ, zero, suc, ◌+◌, ◌-◌, ◌*◌, ◌/◌, ◌<◌, List, [], ◌∷◌, ◌++◌, Float, length, get_or, take, drop}
use Rattle.std.proofs.Common.{arith, length-take, length-drop, get_or-take, get_or-drop}
use Rattle.mesh.specs.declared.Triangle.{Triangle}
use Rattle.mesh_questions.specs.Faces.{faces, faces_from}
use Rattle.mesh.specs.Triangles.{fan_from, fan, fans, triangles}
use Rattle.mesh.specs.MeshBoxes.{vertex}
use Rattle.mesh.specs.steps.TriangleCorners.{Corners, Finite}
use Rattle.mesh_questions.specs.steps.Accepted.{Accepted}
use Rattle.mesh_questions.specs.laws.AcceptedLaws.{fanned}
use Rattle.mesh.specs.laws.Fans.{length_fanned}

-- each of these numbers is below n
abbrev Under : ℕ → List ℕ → Type 0
Under n l = (i : ℕ) → i < length l → get_or l i 0 < n

-- the corners of a triangle are below n
record Within (n : ℕ) (t : Triangle) : Type 0 where
  pub a : t.a < n
  pub b : t.b < n
  pub c : t.c < n

fan_from_within : (n a : ℕ) (l : List ℕ) (k : ℕ) (d : Triangle) → a < n → Under n l → k < length (fan_from a l) → Within n (get_or (fan_from a l) k d)
unfolding fan_from
fan_from_within n a [] k d first u h = absurd (omega arith)
fan_from_within n a (b ∷ []) k d first u h = absurd (omega arith)
fan_from_within n a (b ∷ c ∷ rest) zero d first u h = record { a = first; b = u 0 (omega arith); c = u 1 (omega arith) }
fan_from_within n a (b ∷ c ∷ rest) (suc k) d first u h = fan_from_within n a (c ∷ rest) k d first (λ i g. u (suc i) (omega arith)) (omega arith)

fan_within : (n : ℕ) (face : List ℕ) (k : ℕ) (d : Triangle) → Under n face → k < length (fan face) → Within n (get_or (fan face) k d)
unfolding fan
fan_within n [] k d u h = absurd (omega arith)
fan_within n (a ∷ rest) k d u h = fan_from_within n a rest k d (u 0 (omega arith)) (λ i g. u (suc i) (omega arith)) h

-- a part of a list
part_under : (n start size : ℕ) (l : List ℕ) → Under n l → Under n (take size (drop start l))
part_under n start size l u i h =
    let short = simp (length-take, length-drop) at h in
    rw (get_or-take size (drop start l) i 0 (omega arith), get_or-drop start l i 0) (u (start + i) (omega arith))

append_within : (n : ℕ) (xs ys : List Triangle) (k : ℕ) (d : Triangle) → ((j : ℕ) → j < length xs → Within n (get_or xs j d)) → ((j : ℕ) → j < length ys → Within n (get_or ys j d)) → k < length (xs ++ ys) → Within n (get_or (xs ++ ys) k d)
append_within n [] ys k d f g h = g k h
append_within n (x ∷ xs) ys zero d f g h = f 0 (omega arith)
append_within n (x ∷ xs) ys (suc k) d f g h = append_within n xs ys k d (λ j i. f (suc j) (omega arith)) g (omega arith)

fans_within : (n start : ℕ) (corners ends : List ℕ) (k : ℕ) (d : Triangle) → Under n corners → k < length (fans (faces_from start corners ends)) → Within n (get_or (fans (faces_from start corners ends)) k d)
unfolding fans faces_from
fans_within n start corners [] k d u h = absurd (omega arith)
fans_within n start corners (end ∷ rest) k d u h =
    let face = take (end - start) (drop start corners) in
    append_within n (fan face) (fans (faces_from end corners rest)) k d (λ j g. fan_within n face j d (part_under n start (end - start) corners u) g) (λ j g. fans_within n end corners rest j d u g) h

module _ (coords : List Float) (corners ends : List ℕ) (m : Accepted coords corners ends) (t : ℕ) (d : Triangle) (h : t < length corners - 2 * length ends) where
  triangle_within : Within (length coords / 3) (get_or (triangles corners ends) t d)
  unfolding triangles faces
  triangle_within = fans_within (length coords / 3) 0 corners ends t d m.below (omega (arith, length_fanned corners ends (fanned m)))

  -- the corners of triangle t of an accepted mesh
  pub triangle_corners : Corners coords (get_or (triangles corners ends) t d)
  triangle_corners =
      let within = triangle_within in
      record { a = omega (arith, within.a); b = omega (arith, within.b); c = omega (arith, within.c) }

  -- they are finite
  pub triangle_finite : Finite coords (get_or (triangles corners ends) t d)
  unfolding vertex
  triangle_finite =
      let within = triangle_within in
      record { a = m.finite _ within.a; b = m.finite _ within.b; c = m.finite _ within.c }
