-- Where triangle t of a mesh is found: laws for the function that gives it.
use Rattle.std.specs.Prelude.{ℕ, zero, suc, ◌+◌, ◌-◌, ◌*◌, ◌/◌, ◌≤◌, ◌<◌, ◌≡◌, refl, Bool, true, false, cond, ◌&&◌, List, [], ◌∷◌, ◌++◌, eqb, leb, get_or, take, drop}
use Rattle.std.proofs.Common.{add-one, ap, ◌∙◌, mul-zero, mul-suc, length-take, length-drop, drop-cons, get_or-take, get_or-drop, get_or-append-add, eqb-true}
use native.Mathlib.Omega.{arith}
use Rattle.std.proofs.Math.ListN.{length, get_or-append}
use Rattle.refusal.specs.laws.VerdictLaws.{both}
use Rattle.mesh.specs.declared.Triangle.{Triangle}
use Rattle.mesh.specs.declared.Sides.TheVariants.{Three, Four, Mixed}
use Rattle.mesh_questions.specs.Faces.{faces, faces_from}
use Rattle.mesh.specs.Triangles.{triangle, fan_from, fan, fans, triangles}
use Rattle.mesh.specs.steps.Fans.{start_from, equal_faces, sides, InFace, Placed}
use Rattle.mesh_questions.specs.MeshQuestions.{ends_fit}
use Rattle.mesh_questions.specs.laws.QuestionLaws.{ends_fit_le}
use Rattle.mesh_questions.specs.steps.Accepted.{Wide, Fanned}
use Rattle.mesh.specs.laws.Fans.{length_fan, length_fans}

-- triangle k of a fan from corner a
fan_from_at : (a : ℕ) (l : List ℕ) (k : ℕ) (d : Triangle) → k + 1 < length l → get_or (fan_from a l) k d ≡ triangle a (get_or l k 0) (get_or l (k + 1) 0)
unfolding fan_from
fan_from_at a [] k d h = absurd (omega arith)
fan_from_at a (b ∷ []) k d h = absurd (omega arith)
fan_from_at a (b ∷ c ∷ rest) zero d h = refl
fan_from_at a (b ∷ c ∷ rest) (suc k) d h =
    let same : suc k + 1 ≡ suc (k + 1) = omega arith in
    rw same (fan_from_at a (c ∷ rest) k d (omega arith))

-- triangle k of a face
fan_at : (face : List ℕ) (k : ℕ) (d : Triangle) → k + 2 < length face → get_or (fan face) k d ≡ triangle (get_or face 0 0) (get_or face (k + 1) 0) (get_or face (k + 2) 0)
unfolding fan
fan_at [] k d h = absurd (omega arith)
fan_at (a ∷ rest) k d h =
    let one : k + 1 ≡ suc k = omega arith in
    let two : k + 2 ≡ suc (k + 1) = omega arith in
    rw (two, one) (rw one at (fan_from_at a rest k d (omega arith)))

-- three corners for each face before face f
start_from_le : (start : ℕ) (ends : List ℕ) (f : ℕ) → Wide start ends → f ≤ length ends → start + 3 * f ≤ start_from start ends f
unfolding start_from
start_from_le start ends zero wide h = omega arith
start_from_le start [] (suc f) wide h = absurd (omega arith)
start_from_le start (end ∷ rest) (suc f) wide h = omega (arith, wide.0, start_from_le end rest f wide.1 (omega arith))

-- triangle k of face f, counted from the first face, whose corners begin at place `start`
fans_at : (start : ℕ) (corners ends : List ℕ) (f k : ℕ) (d : Triangle) → ends_fit start (length corners) ends ≡ true → Wide start ends
    → f < length ends → start_from start ends f + k + 2 < get_or ends f 0
    → get_or (fans (faces_from start corners ends)) (start_from start ends f - start - 2 * f + k) d
    ≡ triangle (get_or corners (start_from start ends f) 0) (get_or corners (start_from start ends f + k + 1) 0) (get_or corners (start_from start ends f + k + 2) 0)
unfolding fans faces_from ends_fit start_from
fans_at start corners [] f k d fit wide h at = absurd (omega arith)
fans_at start corners (end ∷ rest) zero k d fit wide h at =
    let fits = both (leb start end) (ends_fit end (length corners) rest) fit in
    let short = ends_fit_le end (length corners) rest fits.1 in
    let face = take (end - start) (drop start corners) in
    let long : length face ≡ end - start = simp (length-take, length-drop) (omega arith) in
    let corner : (i : ℕ) → i < end - start → get_or face i 0 ≡ get_or corners (start + i) 0 = λ i b. get_or-take (end - start) (drop start corners) i 0 b ∙ get_or-drop start corners i 0 in
    let few : k < length (fan face) = omega (arith, length_fan face) in
    let here : start - start - 0 + k ≡ k = omega arith in
    let first : start + 0 ≡ start = omega arith in
    let second : start + (k + 1) ≡ start + k + 1 = omega arith in
    let third : start + (k + 2) ≡ start + k + 2 = omega arith in
    ap (λ (i : ℕ). get_or (fan face ++ fans (faces_from end corners rest)) i d) here
    ∙ get_or-append (fan face) (fans (faces_from end corners rest)) d k few
    ∙ fan_at face k d (omega arith)
    ∙ rw (corner 0 (omega arith), corner (k + 1) (omega arith), corner (k + 2) (omega arith), first, second, third)
fans_at start corners (end ∷ rest) (suc f) k d fit wide h at =
    let fits = both (leb start end) (ends_fit end (length corners) rest) fit in
    let short = ends_fit_le end (length corners) rest fits.1 in
    let face = take (end - start) (drop start corners) in
    let long : length (fan face) ≡ end - start - 2 = length_fan face ∙ simp (length-take, length-drop) (omega arith) in
    let before = start_from_le end rest f wide.1 (omega arith) in
    let begin = start_from end rest f in
    let place : begin - start - 2 * suc f + k ≡ length (fan face) + (begin - end - 2 * f + k) = omega (arith, wide.0) in
    ap (λ (i : ℕ). get_or (fan face ++ fans (faces_from end corners rest)) i d) place
    ∙ get_or-append-add (fan face) (fans (faces_from end corners rest)) (begin - end - 2 * f + k) d
    ∙ fans_at end corners rest f k d fits.1 wide.1 (omega arith) at

-- triangle t of a mesh, found through a face that it is in
pub triangles_at : (corners ends : List ℕ) (t f : ℕ) (d : Triangle) → ends_fit 0 (length corners) ends ≡ true → Wide 0 ends → InFace ends t f
    → get_or (triangles corners ends) t d
    ≡ triangle (get_or corners (start_from 0 ends f) 0) (get_or corners (t + 2 * f + 1) 0) (get_or corners (t + 2 * f + 2) 0)
unfolding triangles faces
triangles_at corners ends t f d fit wide place =
    let begin = start_from 0 ends f in
    let k = t + 2 * f - begin in
    let before = start_from_le 0 ends f wide (omega (arith, place.face)) in
    let index : begin - 0 - 2 * f + k ≡ t = omega (arith, place.from) in
    let second : begin + k + 1 ≡ t + 2 * f + 1 = omega (arith, place.from) in
    let third : begin + k + 2 ≡ t + 2 * f + 2 = omega (arith, place.from) in
    rw (index, second, third) at (fans_at 0 corners ends f k d fit wide place.face (omega (arith, place.from, place.to)))

-- face f + 1 begins where face f ends
pub start_from_next : (start : ℕ) (ends : List ℕ) (f : ℕ) → f < length ends → start_from start ends (f + 1) ≡ get_or ends f 0
unfolding start_from
start_from_next start ends f h = rw (add-one f) (go start ends f h)
  where
    go : (start : ℕ) (ends : List ℕ) (f : ℕ) → f < length ends → start_from start ends (suc f) ≡ get_or ends f 0
    go start [] f h = absurd (omega arith)
    go start (end ∷ rest) zero h = refl
    go start (end ∷ rest) (suc f) h = go end rest f (omega arith)

-- a face that is not the first begins where the one before it ends
pub start_from_before : (start : ℕ) (ends : List ℕ) (f : ℕ) → 0 < f → f ≤ length ends → start_from start ends f ≡ get_or ends (f - 1) 0
start_from_before start ends f some h =
    let same : f - 1 + 1 ≡ f = omega arith in
    rw same at (start_from_next start ends (f - 1) (omega arith))

-- a mesh with a triangle has a face
pub some_face : (ends : List ℕ) (t : ℕ) → t + 2 * length ends < start_from 0 ends (length ends) → 0 < length ends
unfolding start_from
some_face [] t h = absurd (omega arith)
some_face (end ∷ rest) t h = omega arith

-- behind the last face there are no corners
pub start_from_last : (start corners : ℕ) (ends : List ℕ) → ends_fit start corners ends ≡ true → start_from start ends (length ends) ≡ corners
unfolding start_from ends_fit
start_from_last start corners [] fit = eqb-true start corners fit
start_from_last start corners (end ∷ rest) fit = start_from_last end corners rest (both (leb start end) (ends_fit end corners rest) fit).1

-- from face i on: it has so many corners, and so have the rest
pub equal_faces_next : (n start : ℕ) (ends : List ℕ) (i : ℕ) → i < length ends → equal_faces n start (drop i ends) ≡ (eqb (get_or ends i 0) (start + n) && equal_faces n (get_or ends i 0) (drop (i + 1) ends))
unfolding equal_faces
equal_faces_next n start ends i h = rw (add-one, drop-cons ends i 0)

-- where a face begins and ends if all have the same number of corners
pub equal_faces_at : (n start : ℕ) (ends : List ℕ) (f : ℕ) → equal_faces n start ends ≡ true → f < length ends → (start_from start ends f ≡ start + n * f) × (get_or ends f 0 ≡ start + n * f + n)
unfolding equal_faces start_from
equal_faces_at n start [] f e h = absurd (omega arith)
equal_faces_at n start (end ∷ rest) zero e h =
    let here = eqb-true end (start + n) (both (eqb end (start + n)) (equal_faces n end rest) e).0 in
    let none : n * 0 ≡ 0 = mul-zero n in
    (omega arith, omega arith)
equal_faces_at n start (end ∷ rest) (suc f) e h =
    let parts = both (eqb end (start + n)) (equal_faces n end rest) e in
    let here = eqb-true end (start + n) parts.0 in
    let next = equal_faces_at n end rest f parts.1 (omega arith) in
    let more : n * suc f ≡ n * f + n = mul-suc n f in
    (omega (arith, next.0), omega (arith, next.1))

-- what the sides say
equal_3 : (a b : Bool) → cond a Three (cond b Four Mixed) ≡ Three → a ≡ true
equal_3 true b e = refl
equal_3 false true e = cc
equal_3 false false e = cc

equal_4 : (a b : Bool) → cond a Three (cond b Four Mixed) ≡ Four → b ≡ true
equal_4 true b e = cc
equal_4 false true e = refl
equal_4 false false e = cc

-- where the last face ends if all have the same number of corners
equal_faces_last : (n start : ℕ) (ends : List ℕ) → equal_faces n start ends ≡ true → start_from start ends (length ends) ≡ start + n * length ends
unfolding equal_faces start_from
equal_faces_last n start [] e = omega (arith, mul-zero n)
equal_faces_last n start (end ∷ rest) e =
    let parts = both (eqb end (start + n)) (equal_faces n end rest) e in
    let here = eqb-true end (start + n) parts.0 in
    omega (arith, equal_faces_last n end rest parts.1, mul-suc n (length rest))

-- an end is at most the corner count
pub end_le : (start corners : ℕ) (ends : List ℕ) (f : ℕ) → ends_fit start corners ends ≡ true → f < length ends → get_or ends f 0 ≤ corners
unfolding ends_fit
end_le start corners [] f fit h = absurd (omega arith)
end_le start corners (end ∷ rest) zero fit h = ends_fit_le end corners rest (both (leb start end) (ends_fit end corners rest) fit).1
end_le start corners (end ∷ rest) (suc f) fit h = end_le end corners rest f (both (leb start end) (ends_fit end corners rest) fit).1 (omega arith)

-- the corners of a triangle in face f are corners of the mesh
pub in_corners : (corners ends : List ℕ) (t f : ℕ) → Fanned corners ends → InFace ends t f → (start_from 0 ends f < length corners) × (t + 2 * f + 2 < length corners)
in_corners corners ends t f m place =
    let end = end_le 0 (length corners) ends f m.fit place.face in
    (omega (arith, place.from, place.to), omega (arith, place.to))

module _ (corners ends : List ℕ) (m : Fanned corners ends) (t : ℕ) (h : t < length corners - 2 * length ends) where
  -- the face of triangle t if all faces are triangles
  pub in_triangle : sides ends ≡ Three → InFace ends t t × (start_from 0 ends t ≡ 3 * t)
  unfolding sides
  in_triangle e =
      let equal = equal_3 _ (equal_faces 4 0 ends) e in
      let last = equal_faces_last 3 0 ends equal in
      let all = start_from_last 0 (length corners) ends m.fit in
      let few : t < length ends = omega arith in
      let at = equal_faces_at 3 0 ends t equal few in
      (record { face = few; from = omega (arith, at.0); to = omega (arith, at.1) }, omega (arith, at.0))

  -- the face of triangle t if all faces have four corners
  pub in_quad : sides ends ≡ Four → InFace ends t (t / 2) × (start_from 0 ends (t / 2) ≡ 4 * (t / 2))
  unfolding sides
  in_quad e =
      let equal = equal_4 (equal_faces 3 0 ends) _ e in
      let last = equal_faces_last 4 0 ends equal in
      let all = start_from_last 0 (length corners) ends m.fit in
      let few : t / 2 < length ends = omega arith in
      let at = equal_faces_at 4 0 ends (t / 2) equal few in
      (record { face = few; from = omega (arith, at.0); to = omega (arith, at.1) }, omega (arith, at.0))

-- what is known where triangle t of a mesh is looked for
pub placed : (corners ends : List ℕ) (t : ℕ) → Fanned corners ends → t < length corners - 2 * length ends → Placed ends (length corners - 2 * length ends) t
placed corners ends t m h =
    let last = start_from_last 0 (length corners) ends m.fit in
    let count = length_fans 0 corners ends m.fit m.wide in
    record { faces = m.faces; last = omega arith; few = omega (arith, m.few); triangle = h }
