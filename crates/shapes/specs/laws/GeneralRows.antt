-- Starred rows of document 01's table 'Edges of the rules' that hold for more than the one case that the table has: for every centre, start or point.
-- A finite point less itself is the vector of zeros, so what a sphere says of its centre and a cylinder of an axis without length turns on no coordinate.
use Rattle.std.specs.Prelude.{ℕ, ◌*◌, ◌<◌, ◌≡◌, refl, Bool, true, false, not, cond, ltb, [], Float}
use Rattle.std.proofs.Common.{arith, ◌∙◌, mul-pos}
use Rattle.std.proofs.Math.Bool.{and-false}
use Rattle.std.proofs.Math.Nat.{sub_self}
use borrow.Author.Tests.{le-ltb}
use Rattle.std.specs.Float.{nan, inf, fin, binary64}
use Rattle.std.specs.Float.Ieee.{of_bits, up, down, neg, round, sum, le, lt, eq, ne, add, sub, mul}
use Rattle.std.specs.Float.Ieee.Fits.{down_pos}
use Rattle.std.specs.Float.Ieee.Scale.{round_same}
use Rattle.float.specs.Arithmetic.{◌⊕◌, ◌⊖◌, zero}
use Rattle.float.specs.Rules as Rules
use Rattle.float.specs.laws.Order.{Finite}
use Rattle.sqrt.specs.Root.{root}
use Rattle.math.specs.declared.Vec3.{Vec3}
use Rattle.math.specs.Vectors as Vectors
use Rattle.math.specs.laws.Enclosing.{finite_vec}
use Rattle.geom.specs.Tolerance.{tol, tol_of, scale, scale_from}
use Rattle.geom.specs.Polygons.{points2, in_polygon, point_in_polygon}
use Rattle.shapes.specs.Round.{inside_sphere, axial, in_cylinder, inside_cylinder}
use Rattle.shapes.specs.Polylines.{dist_from, polyline_dist, inside_wire}
use Rattle.shapes.specs.Planes.{inside_prism, inside_polygon}

-- ---- a finite point less itself

-- 0 / c rounds to zero
round_nothing : (c : ℕ) → 0 < c → round binary64 false 0 c ≡ zero
unfolding round of_bits
round_nothing c h = round_same binary64 false 0 c 0 1 h (omega arith) (omega arith) ∙ refl

-- a size less itself, with either sign first
size_less_itself : (s : Bool) (a c : ℕ) → 0 < c → sum binary64 s a (not s) a c ≡ zero
unfolding sum
size_less_itself true a c h = rw (le-ltb a a (omega arith), sub_self a) (round_nothing c h)
size_less_itself false a c h = rw (le-ltb a a (omega arith), sub_self a) (round_nothing c h)

less_itself : (x : Float) → Finite x → x ⊖ x ≡ zero
unfolding sub add neg
less_itself nan h = absurd h
less_itself (inf s) h = absurd h
less_itself (fin s m e) h = size_less_itself s (m * up e * down e) (down e * down e) (mul-pos (down_pos e) (down_pos e))

abbrev zeros : Vec3
zeros = Vectors.vec zero zero zero

point_less_itself : (a : Vec3) → Vectors.is_finite a ≡ true → Vectors.sub a a ≡ zeros
unfolding Vectors.sub
point_less_itself a h =
    let finite = finite_vec a h in
    rw (less_itself a.x finite.0, less_itself a.y finite.1, less_itself a.z finite.2)

no_length : Vectors.norm_sq zeros ≡ zero
unfolding Vectors.norm_sq Vectors.dot add mul of_bits
no_length = refl

no_distance : Vectors.norm zeros ≡ zero
unfolding Vectors.norm root of_bits
no_distance = rw no_length

-- ---- the rows

-- What a sphere says of its centre turns on the radius alone.
pub of_center : (c : Vec3) (radius : Float) → Vectors.is_finite c ≡ true → inside_sphere c radius c ≡ le zero (radius ⊕ tol radius zero)
unfolding inside_sphere
of_center c radius h = rw (point_less_itself c h, no_distance)

-- -1
abbrev pub minus_one : Float
minus_one = of_bits binary64 0xBFF0000000000000

-- The centre of a sphere of radius 0 is inside.
pub center_inside : (c : Vec3) → Vectors.is_finite c ≡ true → inside_sphere c zero c ≡ true
unfolding le lt eq ne add mul of_bits Rules.max Rules.abs tol tol_of
center_inside c h = of_center c zero h

-- The centre of a sphere of radius -1 is outside.
pub center_outside : (c : Vec3) → Vectors.is_finite c ≡ true → inside_sphere c minus_one c ≡ false
unfolding le lt eq ne add mul of_bits Rules.max Rules.abs tol tol_of
center_outside c h = of_center c minus_one h

-- A cylinder whose start is its stop holds no point.
pub cylinder_without_length : (a : Vec3) (radius : Float) (p : Vec3) → Vectors.is_finite a ≡ true → inside_cylinder a a radius p ≡ false
unfolding inside_cylinder axial in_cylinder eq of_bits
cylinder_without_length a radius p h = rw (point_less_itself a h, no_length)

-- An empty polygon holds no point.
pub polygon_without_vertices : (n : ℕ) (elevation : Float) (p : Vec3) → inside_polygon n elevation [] p ≡ false
unfolding inside_polygon inside_prism point_in_polygon points2 in_polygon
polygon_without_vertices n elevation p = rw and-false (either (ltb 2 n))
  where
    either : (t : Bool) → cond t false false ≡ false
    either true = refl
    either false = refl

-- the largest float
abbrev pub largest : Float
largest = of_bits binary64 0x7FEFFFFFFFFFFFFF

-- An empty wire whose radius is the largest float holds every point.
pub wire_without_points : (p : Vec3) → inside_wire [] largest p ≡ true
unfolding inside_wire polyline_dist dist_from Vectors.points scale scale_from le lt eq ne add mul of_bits Rules.max Rules.abs tol tol_of
wire_without_points p = refl
