-- What the vote loop and `point_answer` rest on: one over each direction is finite and not zero, the tolerance of the surface test is not below zero, and the
-- loop's steps are those of the definition.
use Rattle.std.specs.Prelude.{Some, None, ℕ, zero, suc, ◌+◌, ◌≤◌, ◌<◌, ◌≡◌, refl, true, cond, map, T, Float, get_or, drop}
use Rattle.std.proofs.Common.{arith}
use Rattle.std.specs.Float.{nan, inf, fin}
use Rattle.std.specs.Float.Ieee.{binary64, of_bits, is_nan, div, mul, le, lt, ne, eq}
use Rattle.std.specs.Float.Ieee.Bits.{is_true}
use Rattle.float.specs.Arithmetic as Arithmetic
use Rattle.float.specs.Arithmetic.{◌⊗◌}
use Rattle.float.specs.Rules as Rules
use Rattle.float.specs.laws.Order.{le_trans, le_max_right, mul_comm, mul_mono_pos}
use Rattle.math.specs.declared.Vec3.{Vec3}
use Rattle.math.specs.Vectors as Vectors
use Rattle.math.specs.Vectors.{vec}
use Rattle.geom.specs.Tolerance.{rel_tol, least_magnitude, tol_of}
use Rattle.mesh.specs.Mesh.{Mesh}
use Rattle.mesh.specs.MeshBoxes.{surface_eps, prepare}
use Rattle.scan.specs.steps.Slabs.{finite_non_zero}
use Rattle.scan.specs.declared.votes.Parity.TheVariants.{Odd, Even}
use Rattle.scan.specs.declared.votes.Votes.{Votes}
use Rattle.scan.specs.Scan.{Vote, inverse, directions, counted, ended, votes_from}
use Rattle.walks.specs.declared.ray.Heading.{Heading}
use Rattle.walks.specs.steps.Casts.{direction, heading}

-- ---- the directions

-- the heading of direction k
pub heading_at : (k : ℕ) (d : Heading) → k < 3 → get_or (map heading directions) k d ≡ heading (direction k)
unfolding direction directions
heading_at zero d h = refl
heading_at (suc zero) d h = refl
heading_at (suc (suc zero)) d h = refl
heading_at (suc (suc (suc k))) d h = absurd (omega arith)

-- it is finite and not zero
pub inverse_factors : (k : ℕ) → k < 3 → finite_non_zero (inverse (direction k)) ≡ true
unfolding direction directions inverse finite_non_zero Vectors.is_finite Rules.is_finite of_bits div ne eq
inverse_factors zero h = refl
inverse_factors (suc zero) h = refl
inverse_factors (suc (suc zero)) h = refl
inverse_factors (suc (suc (suc k))) h = absurd (omega arith)

-- ---- the loop

-- from direction k on
pub votes_from_next : (cast : Vec3 → Vote) (v : Votes) (k : ℕ) → k < 3 → votes_from cast v (drop k directions) ≡ cond (ended v) v (votes_from cast (counted v (cast (direction k))) (drop (k + 1) directions))
unfolding direction directions votes_from
votes_from_next cast v zero h = refl
votes_from_next cast v (suc zero) h = refl
votes_from_next cast v (suc (suc zero)) h = refl
votes_from_next cast v (suc (suc (suc k))) h = absurd (omega arith)

-- one vote more
pub counted_sum : (v : Votes) (vote : Vote) → (counted v vote).odd + (counted v vote).even ≤ v.odd + v.even + 1
unfolding counted
counted_sum v None = omega arith
counted_sum v (Some Odd) = omega arith
counted_sum v (Some Even) = omega arith

-- ---- the tolerance

-- the least magnitude is at most what a tolerance is taken of
least_below : (m : Float) → T (le least_magnitude (Rules.max m least_magnitude))
least_below nan = unfold Rules.max le lt ne eq of_bits in tt
least_below (inf s) = le_max_right (inf s) least_magnitude (unfold is_nan in tt) (unfold is_nan of_bits in tt)
least_below (fin s m e) = le_max_right (fin s m e) least_magnitude (unfold is_nan in tt) (unfold is_nan of_bits in tt)

-- the tolerance of a magnitude is not below zero
tol_of_positive : (m : Float) → le Arithmetic.zero (tol_of m) ≡ true
unfolding tol_of
tol_of_positive m =
    let largest = Rules.max m least_magnitude in
    let least : T (le Arithmetic.zero (least_magnitude ⊗ rel_tol)) = unfold le mul of_bits in tt in
    rw (mul_comm binary64 rel_tol largest)
    (is_true _ (le_trans Arithmetic.zero (least_magnitude ⊗ rel_tol) (largest ⊗ rel_tol) least (mul_mono_pos binary64 least_magnitude largest rel_tol (unfold of_bits in tt) (unfold lt of_bits in tt) (least_below m))))

-- so is that of the surface test
pub eps_positive : (m : Mesh) → le Arithmetic.zero (prepare m.coords).eps ≡ true
unfolding prepare surface_eps
eps_positive m = tol_of_positive _
