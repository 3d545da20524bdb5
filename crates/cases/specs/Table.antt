-- Document 01's table 'Edges of the rules': the starred cases, and what each gives. Definitions only.
use Rattle.std.specs.Prelude.{ℕ, Bool, true, false, cond, ◌&&◌, List, [], ◌∷◌, eqb, Float}
use Rattle.std.specs.Float.{binary64}
use Rattle.std.specs.Float.Ieee.{of_bits, to_bits}
use Rattle.float.specs.Arithmetic.{zero, one}
use Rattle.sqrt.specs.Root.{root}
use Rattle.math.specs.declared.Vec3.{Vec3}
use Rattle.math.specs.Vectors.{vec}
use Rattle.geom.specs.Tolerance.{in_range}
use Rattle.shapes.specs.Planes.{plane_axes}
use Rattle.shapes.specs.declared.Shape.{Shape}
use Rattle.shapes.specs.declared.Shape.TheVariants.{Sphere, Cylinder, Polygon, Wire}
use Rattle.primitives.specs.ShapeQuestions.{shape_answer, value}
use Rattle.mesh.specs.Mesh.{Mesh, mesh}
use Rattle.edges.specs.Edges.{closed}
use Rattle.tree.specs.Tree.{node_count}
use Rattle.builder.specs.Builder.{layout}

-- a case of the rules
pub data Case : Type 0 where
  -- the root of the float with these bits
  root_of : ℕ → Case
  -- the axes of a plane normal to this one
  axes_of : ℕ → Case
  -- a value in the range between two others
  in_range_of : Float → Float → Float → Case
  -- a point in a shape, with its list
  in_shape : Shape → List Float → Vec3 → Case
  -- the mesh of these faces closed
  closed_by : List (List ℕ) → Case
  -- the nodes of a mesh's tree
  nodes_of : Mesh → Case

-- yes is 1, no is 0
abbrev yes_no : Bool → ℕ
yes_no b = cond b 1 0

-- what the rules say of a case: bits, axes, yes or no, the answer's number, how many nodes
unfoldable pub outcome : Case → List ℕ
outcome (root_of bits) = to_bits binary64 (root (of_bits binary64 bits)) ∷ []
outcome (axes_of normal) = (plane_axes normal).u ∷ (plane_axes normal).v ∷ []
outcome (in_range_of v a b) = yes_no (in_range v a b) ∷ []
outcome (in_shape shape list p) = value (shape_answer shape list p) ∷ []
outcome (closed_by faces) = yes_no (closed faces) ∷ []
outcome (nodes_of m) = node_count (layout m) ∷ []

-- a row of the table: a case and what it gives
pub record Row : Type 0 where
  pub case : Case
  pub gives : List ℕ

row : Case → List ℕ → Row
row case gives = record { case = case; gives = gives }

-- the point (1, 1, 1)
abbrev ones : Vec3
ones = vec one one one

-- 1 + 1e-11, -1 and the largest float
abbrev beyond_one : Float
beyond_one = of_bits binary64 0x3FF000000000AFEC

abbrev minus_one : Float
minus_one = of_bits binary64 0xBFF0000000000000

abbrev largest : Float
largest = of_bits binary64 0x7FEFFFFFFFFFFFFF

-- four and five triangles, each of them three times the one vertex
abbrev four : Mesh
four = mesh (zero ∷ zero ∷ zero ∷ []) (0 ∷ 0 ∷ 0 ∷ 0 ∷ 0 ∷ 0 ∷ 0 ∷ 0 ∷ 0 ∷ 0 ∷ 0 ∷ 0 ∷ []) (3 ∷ 6 ∷ 9 ∷ 12 ∷ [])

abbrev five : Mesh
five = mesh (zero ∷ zero ∷ zero ∷ []) (0 ∷ 0 ∷ 0 ∷ 0 ∷ 0 ∷ 0 ∷ 0 ∷ 0 ∷ 0 ∷ 0 ∷ 0 ∷ 0 ∷ 0 ∷ 0 ∷ 0 ∷ []) (3 ∷ 6 ∷ 9 ∷ 12 ∷ 15 ∷ [])

-- the starred rows in their order
unfoldable pub table : List Row
unfolding row
table =
    -- root of 4; of 2^-1074
    row (root_of 0x4010000000000000) (0x4000000000000000 ∷ [])
    ∷ row (root_of 1) (0x1E60000000000000 ∷ [])
    -- root of 2, bits
    ∷ row (root_of 0x4000000000000000) (0x3FF6A09E667F3BCD ∷ [])
    -- plane axes of 0, 1, 2
    ∷ row (axes_of 0) (1 ∷ 2 ∷ [])
    ∷ row (axes_of 1) (2 ∷ 0 ∷ [])
    ∷ row (axes_of 2) (0 ∷ 1 ∷ [])
    -- 1 in range 0..1, and 1..0
    ∷ row (in_range_of one zero one) (1 ∷ [])
    ∷ row (in_range_of one one zero) (1 ∷ [])
    -- 1 + 1e-11 in range 0..1
    ∷ row (in_range_of beyond_one zero one) (0 ∷ [])
    -- sphere radius 0, its centre; radius -1, its centre
    ∷ row (in_shape (Sphere ones zero) [] ones) (1 ∷ [])
    ∷ row (in_shape (Sphere ones minus_one) [] ones) (0 ∷ [])
    -- cylinder with start equal to stop
    ∷ row (in_shape (Cylinder ones ones one) [] ones) (0 ∷ [])
    -- empty polygon
    ∷ row (in_shape (Polygon 2 one) [] ones) (0 ∷ [])
    -- empty wire, radius the largest float
    ∷ row (in_shape (Wire largest) [] ones) (1 ∷ [])
    -- no faces
    ∷ row (closed_by []) (0 ∷ [])
    -- one triangle listed twice
    ∷ row (closed_by ((0 ∷ 1 ∷ 2 ∷ []) ∷ (0 ∷ 1 ∷ 2 ∷ []) ∷ [])) (1 ∷ [])
    -- 4 and 5 triangles
    ∷ row (nodes_of four) (1 ∷ [])
    ∷ row (nodes_of five) (3 ∷ [])
    ∷ []

-- whether two lists of numbers are the same
unfoldable pub same : List ℕ → List ℕ → Bool
same [] [] = true
same [] (b ∷ m) = false
same (a ∷ l) [] = false
same (a ∷ l) (b ∷ m) = eqb a b && same l m

-- whether every row gives what it says
unfoldable pub all_give : List Row → Bool
all_give [] = true
all_give (r ∷ rest) = same (outcome r.case) r.gives && all_give rest
