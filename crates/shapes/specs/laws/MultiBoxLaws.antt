-- The laws by which a loop over a list of boxes asks each.
use Rattle.std.specs.Prelude.{ℕ, ◌+◌, ◌*◌, ◌<◌, ◌≡◌, refl, false, ◌||◌, List, [], ◌∷◌, Float, length, drop}
use Rattle.std.proofs.Common.{arith, length-drop}
use Rattle.math.specs.declared.Vec3.{Vec3}
use Rattle.math.specs.Vectors.{at, points}
use Rattle.math.specs.laws.VectorLaws.{points_next, length_points}
use Rattle.shapes.specs.BoxShapes.{inside_box, in_some_box}

-- from box k on: box k, or the boxes after it
pub in_some_box_next : (l : List Float) (k : ℕ) (p : Vec3) → 6 * k + 5 < length l → in_some_box (points (drop (6 * k) l)) p ≡ (inside_box (at l (6 * k)) (at l (6 * k + 3)) p || in_some_box (points (drop (6 * (k + 1)) l)) p)
unfolding in_some_box
in_some_box_next l k p h =
    let same : 6 * k + 3 + 3 ≡ 6 * (k + 1) = omega arith in
    rw (points_next l (6 * k) (omega arith), points_next l (6 * k + 3) (omega arith), same)

-- one corner alone is no box
few : (ps : List Vec3) (p : Vec3) → length ps < 2 → in_some_box ps p ≡ false
unfolding in_some_box
few [] p h = refl
few (a ∷ []) p h = refl
few (a ∷ b ∷ rest) p h = absurd (omega arith)

-- past the last whole box there is none
pub in_some_box_end : (l : List Float) (k : ℕ) (p : Vec3) → length l < 6 * k + 6 → in_some_box (points (drop (6 * k) l)) p ≡ false
in_some_box_end l k p h = few _ p (simp (length_points, length-drop) (omega arith))
