-- The centre of a triangle, worked out on one axis of its corners' numbers.
use Rattle.std.specs.Prelude.{ℕ, zero, suc, ◌+◌, ◌*◌, ◌<◌, ◌≡◌, refl, true, false, List, Float, get_or}
use Rattle.std.proofs.Common.{arith}
use Rattle.std.specs.Float.{nan}
use Rattle.float.specs.Arithmetic.{◌⊕◌, ◌⊗◌, half}
use Rattle.float.specs.laws.Order.{Number}
use Rattle.math.specs.Vectors as Vectors
use Rattle.math.specs.Vectors.{component}
use Rattle.math.specs.BoundingBoxes.{empty, is_empty, include, center}
use Rattle.math.specs.laws.CornerLaws as Points
use Rattle.math.specs.steps.Corners.{lowest, highest}
use Rattle.mesh.specs.declared.Triangle.{Triangle}
use Rattle.mesh.specs.declared.Axis.{Axis}
use Rattle.mesh.specs.steps.Axes.{place}
use Rattle.mesh.specs.laws.AxisLaws.{place_lt}
use Rattle.mesh.specs.MeshBoxes.{vertex, corner_points, triangle_box, triangle_center}
use Rattle.mesh.specs.steps.TriangleCorners.{Finite}
use Rattle.mesh.specs.laws.MeshBoxLaws.{points_finite, points_box}

-- a triangle's centre on an axis
pub center_on_lem : (coords : List Float) (t : Triangle) (axis : ℕ) → axis < 3
    → let a = get_or coords (3 * t.a + axis) nan in let b = get_or coords (3 * t.b + axis) nan in let c = get_or coords (3 * t.c + axis) nan in
    component (triangle_center coords t) axis ≡ (lowest a b c ⊕ highest a b c) ⊗ half
unfolding component triangle_center triangle_box center include empty vertex Vectors.at Vectors.min Vectors.max Vectors.add Vectors.mul
center_on_lem coords t zero h =
    let none : (v : ℕ) → 3 * v + 0 ≡ 3 * v = λ v. omega arith in
    rw (none t.a, none t.b, none t.c)
center_on_lem coords t (suc zero) h = refl
center_on_lem coords t (suc (suc zero)) h = refl
center_on_lem coords t (suc (suc (suc axis))) h = absurd (omega arith)

-- a triangle with finite corners has a box that is not empty
pub box_some : (coords : List Float) (t : Triangle) → Finite coords t → is_empty (triangle_box coords t) ≡ false
box_some coords t f = rw (← points_box coords t) (Points.box_some (corner_points coords t) (points_finite coords t f))

-- no coordinate of a finite vertex is a NaN
pub number_on : (coords : List Float) (v axis : ℕ) → axis < 3 → Vectors.is_finite (vertex coords v) ≡ true → Number (get_or coords (3 * v + axis) nan)
unfolding vertex Vectors.at
number_on coords v zero h e =
    let none : 3 * v + 0 ≡ 3 * v = omega arith in
    rw none (Points.numbers (Vectors.at coords (3 * v)) e).0
number_on coords v (suc zero) h e = (Points.numbers (Vectors.at coords (3 * v)) e).1
number_on coords v (suc (suc zero)) h e = (Points.numbers (Vectors.at coords (3 * v)) e).2
number_on coords v (suc (suc (suc axis))) h e = absurd (omega arith)

-- so the numbers of the first two corners of a triangle with finite corners are none
pub first_two : (coords : List Float) (t : Triangle) (axis : Axis) → Finite coords t
    → Number (get_or coords (3 * t.a + place axis) nan) × Number (get_or coords (3 * t.b + place axis) nan)
first_two coords t axis f =
    let number = λ (v : ℕ). number_on coords v (place axis) (place_lt axis) in
    (number t.a f.a, number t.b f.b)
