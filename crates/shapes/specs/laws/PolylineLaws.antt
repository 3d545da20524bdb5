-- The laws by which a loop over a list's numbers finds the distance from its polyline.
use Rattle.std.specs.Prelude.{◌/◌, ◌≡◌, refl, false, List, [], ◌∷◌, Float, length, drop}
use Rattle.std.proofs.Common.{arith, length-drop}
use Rattle.std.specs.Float.{inf}
use Rattle.math.specs.declared.Vec3.{Vec3}
use Rattle.math.specs.Vectors.{at, sub, norm, points}
use Rattle.math.specs.laws.VectorLaws.{points_next, points_short, length_points}
use Rattle.shapes.specs.Polylines.{segments, dist_from, polyline_dist}

-- but for a single point, the distance is the least from the segments
pub polyline_dist_segments : (l : List Float) (p : Vec3) → (length l / 3 ≡ 1 → ⊥) → polyline_dist l p ≡ segments p (inf false) (points l)
unfolding polyline_dist dist_from segments
polyline_dist_segments l p h = go (points l) (rw length_points h)
  where
    go : (ps : List Vec3) → (length ps ≡ 1 → ⊥) → dist_from p ps ≡ segments p (inf false) ps
    go [] h = refl
    go (a ∷ []) h = absurd (h refl)
    go (a ∷ b ∷ rest) h = refl

-- a list of one point
pub polyline_dist_point : (l : List Float) (p : Vec3) → length l / 3 ≡ 1 → polyline_dist l p ≡ norm (sub p (at l 0))
unfolding polyline_dist dist_from
polyline_dist_point l p h = rw (points_next l 0 (omega arith), points_short (drop 3 l) (simp length-drop (omega arith)))
