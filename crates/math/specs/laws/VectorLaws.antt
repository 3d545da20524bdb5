-- The laws by which a loop over the numbers of a list computes its points.
use Rattle.std.specs.Prelude.{ℕ, zero, suc, ◌+◌, ◌*◌, ◌/◌, ◌<◌, ◌≡◌, refl, List, [], ◌∷◌, length, get_or, drop, Float}
use Rattle.std.proofs.Common.{arith, drop-cons}
use Rattle.std.specs.Float.{nan}
use Rattle.math.specs.declared.Vec3.{Vec3}
use Rattle.math.specs.Vectors.{points, at}

-- from place i on, the list's points are the one there and the points from place i + 3 on
pub points_next : (l : List Float) (i : ℕ) → i + 2 < length l → points (drop i l) ≡ at l i ∷ points (drop (i + 3) l)
unfolding points at
points_next l i h =
    let one : i + 1 ≡ suc i = omega arith in
    let two : i + 2 ≡ suc (suc i) = omega arith in
    let three : i + 3 ≡ suc (suc (suc i)) = omega arith in
    rw
    (one, two, three, drop-cons l i nan (omega arith), drop-cons l (suc i) nan (omega arith), drop-cons l (suc (suc i)) nan (omega arith))

-- fewer than three numbers are no point
pub points_short : (l : List Float) → length l < 3 → points l ≡ []
unfolding points
points_short [] h = refl
points_short (x ∷ []) h = refl
points_short (x ∷ y ∷ []) h = refl
points_short (x ∷ y ∷ z ∷ rest) h = absurd (omega arith)

-- there are a third as many
pub length_points : (l : List Float) → length (points l) ≡ length l / 3
unfolding points
length_points [] = refl
length_points (x ∷ []) = refl
length_points (x ∷ y ∷ []) = refl
length_points (x ∷ y ∷ z ∷ rest) = omega (arith, length_points rest)

-- point v of the list is the three numbers from place 3 v on
pub get_d_points : (l : List Float) (v : ℕ) (d : Vec3) → v < length l / 3 → get_or (points l) v d ≡ at l (3 * v)
unfolding points at
get_d_points [] v d h = absurd (omega arith)
get_d_points (x ∷ []) v d h = absurd (omega arith)
get_d_points (x ∷ y ∷ []) v d h = absurd (omega arith)
get_d_points (x ∷ y ∷ z ∷ rest) zero d h = refl
get_d_points (x ∷ y ∷ z ∷ rest) (suc v) d h =
    let same : 3 * suc v ≡ suc (suc (suc (3 * v))) = omega arith in
    let one : 3 * suc v + 1 ≡ suc (suc (suc (3 * v + 1))) = omega arith in
    let two : 3 * suc v + 2 ≡ suc (suc (suc (3 * v + 2))) = omega arith in
    rw (one, two, same) (get_d_points rest v d (omega arith))
