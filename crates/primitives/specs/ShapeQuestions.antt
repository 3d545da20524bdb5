-- Document 01's questions 11, 10 and 9 of a shape, and the answer of the shape question. Definitions only.
use Rattle.std.specs.Prelude.{ℕ, ◌/◌, ◌%◌, Bool, true, false, ◌&&◌, Option, Some, None, Result, Ok, Err, List, [], ◌∷◌, eqb, leb, Float, length}
use Rattle.float.specs.Rules as Rules
use Rattle.math.specs.declared.Vec3.{Vec3}
use Rattle.math.specs.Vectors as Vectors
use Rattle.refusal.specs.declared.Refusal.{Refusal}
use Rattle.refusal.specs.declared.Refusal.TheVariants as Refusals
use Rattle.refusal.specs.Numbers.{code}
use Rattle.refusal.specs.Verdicts.{Verdict, ask, then, answered}
use Rattle.shapes.specs.declared.Shape.{Shape}
use Rattle.shapes.specs.declared.Shape.TheVariants.{Box, CylindricalBox, MultiBox, Sphere, SphericalShell, Cylinder, CylindricalShell, Polygon, LinPoly, Curve, Wire, Point}
use Rattle.shapes.specs.Shapes.{inside}

-- the numbers of an entry: polygon 2, wire 3, multi-box 6; none for a shape whose list is no list of entries
abbrev pub entry_size : Shape → Option ℕ
entry_size (Box start stop) = None
entry_size (CylindricalBox start stop) = None
entry_size MultiBox = Some 6
entry_size (Sphere center radius) = None
entry_size (SphericalShell center radius width) = None
entry_size (Cylinder start stop radius) = None
entry_size (CylindricalShell start stop radius width) = None
entry_size (Polygon normal elevation) = Some 2
entry_size (LinPoly normal elevation extent) = Some 2
entry_size Curve = None
entry_size (Wire radius) = Some 3
entry_size (Point point) = None

-- whether a list of this length is at most 4,096 whole entries of this size
unfoldable pub whole : Option ℕ → ℕ → Bool
whole None len = true
whole (Some size) len = eqb (len % size) 0 && leb (len / size) 4096

-- question 11: has a polygon, wire or multi-box whole entries, at most 4,096?
unfoldable pub whole_entries : Shape → List Float → Bool
whole_entries shape list = whole (entry_size shape) (length list)

-- whether every number of a list is finite
unfoldable pub all_finite : List Float → Bool
all_finite [] = true
all_finite (x ∷ rest) = Rules.is_finite x && all_finite rest

-- question 10: is each number of the shape finite?
unfoldable pub finite_numbers : Shape → List Float → Bool
finite_numbers (Box start stop) list = Vectors.is_finite start && Vectors.is_finite stop
finite_numbers (CylindricalBox start stop) list = Vectors.is_finite start && Vectors.is_finite stop
finite_numbers MultiBox list = all_finite list
finite_numbers (Sphere center radius) list = Vectors.is_finite center && Rules.is_finite radius
finite_numbers (SphericalShell center radius width) list = Vectors.is_finite center && Rules.is_finite radius && Rules.is_finite width
finite_numbers (Cylinder start stop radius) list = Vectors.is_finite start && Vectors.is_finite stop && Rules.is_finite radius
finite_numbers (CylindricalShell start stop radius width) list = Vectors.is_finite start && Vectors.is_finite stop && Rules.is_finite radius && Rules.is_finite width
finite_numbers (Polygon normal elevation) list = Rules.is_finite elevation && all_finite list
finite_numbers (LinPoly normal elevation extent) list = Rules.is_finite elevation && Rules.is_finite extent && all_finite list
finite_numbers Curve list = all_finite list
finite_numbers (Wire radius) list = Rules.is_finite radius && all_finite list
finite_numbers (Point point) list = Vectors.is_finite point

-- question 9: is the point finite?
unfoldable pub finite_point : Vec3 → Bool
finite_point p = Vectors.is_finite p

-- questions 11, 10 and 9
unfoldable pub shape_verdict : Shape → List Float → Vec3 → Verdict
shape_verdict shape list p =
    then (ask (whole_entries shape list) Refusals.Entries)
    (then (ask (finite_numbers shape list) Refusals.ShapeNumber)
    (ask (finite_point p) (Refusals.Point 0)))

-- the shape question: these, and then the rule
unfoldable pub shape_answer : Shape → List Float → Vec3 → Result Bool Refusal
shape_answer shape list p = answered (shape_verdict shape list p) (inside shape list p)

-- document 01's number of an answer: 0 outside, 1 inside, and a refusal's number × 1,000,000 plus its place
abbrev pub value : Result Bool Refusal → ℕ
value (Ok false) = 0
value (Ok true) = 1
value (Err refusal) = code refusal
