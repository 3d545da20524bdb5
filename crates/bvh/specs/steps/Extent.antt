-- What the builder measures of a node's items in the order in which they stand: on each axis the lowest and the highest finite centre; the axis
-- of the greatest spread; and the edges of the node's box, which an inner node has from its halves. Definitions only; laws/ExtentLaws.antt says
-- that the order does not matter.
use Rattle.std.specs.Prelude.{ℕ, Bool, true, false, not, cond, ◌&&◌, List, [], ◌∷◌, leb, eqb, Float, Option, None, Some}
use Rattle.std.specs.Float.Ieee.{eq}
use Rattle.float.specs.Arithmetic.{zero}
use Rattle.float.specs.Rules as Rules
use Rattle.float.specs.TotalOrder.{order_key}
use Rattle.keys.specs.Sorting.{sorted}
use Rattle.math.specs.declared.Vec3.{Vec3}
use Rattle.math.specs.declared.BoundingBox.{BoundingBox}
use Rattle.math.specs.Vectors.{vec, component}
use Rattle.math.specs.BoundingBoxes.{box}
use Rattle.mesh.specs.Mesh.{Mesh, own_box}
use Rattle.builder.specs.Builder.{center_of}
use Rattle.bvh.specs.declared.extent.End.{End}
use Rattle.bvh.specs.declared.extent.End.TheVariants.{Lower, Upper}

-- ---- the ends of a box

-- whether it is the upper one
abbrev pub is_upper : End → Bool
is_upper Lower = false
is_upper Upper = true

-- ---- the centres

-- the smaller of two, or the larger
unfoldable pub pick : Bool → Float → Float → Float
pick upper a b = cond upper (Rules.max a b) (Rules.min a b)

-- the lower of an end and a centre, or the higher; one that is not finite does not count
unfoldable pub end_with : Bool → Float → Float → Float
end_with upper end c = cond (Rules.is_finite c) (pick upper end c) end

-- a box around centres, and one centre more
unfoldable pub with_center : BoundingBox → Vec3 → BoundingBox
with_center b c =
    box
    (vec (end_with false b.min.x c.x) (end_with false b.min.y c.y) (end_with false b.min.z c.z))
    (vec (end_with true b.max.x c.x) (end_with true b.max.y c.y) (end_with true b.max.z c.z))

-- a box around centres, and the centres of triangles in their order
unfoldable pub with_centers : Mesh → BoundingBox → List ℕ → BoundingBox
with_centers m b [] = b
with_centers m b (t ∷ rest) = with_centers m (with_center b (center_of m t)) rest

-- ---- the axis

-- of axes a and b that of greater size in total order, b on a tie
unfoldable pub wider_axis : Vec3 → ℕ → ℕ → ℕ
wider_axis size a b = cond (leb (order_key (component size a)) (order_key (component size b))) b a

-- the axis of greatest size, the last on a tie
unfoldable pub widest_axis : Vec3 → ℕ
widest_axis size = wider_axis size (wider_axis size 0 1) 2

-- ---- the box

-- the upper edge of a box on an axis, or the lower one
unfoldable pub edge : Bool → ℕ → BoundingBox → Float
edge upper axis b = component (cond upper b.max b.min) axis

-- that edge of the own box of triangle t
abbrev pub own_edge : Mesh → Bool → ℕ → ℕ → Float
own_edge m upper axis t = edge upper axis (own_box m t)

-- the first of the items whose edge is zero
unfoldable pub first_zero : (ℕ → Float) → List ℕ → Option ℕ
first_zero e [] = None
first_zero e (t ∷ rest) = cond (eq (e t) zero) (Some t) (first_zero e rest)

-- whether item t does not come later than what was found
abbrev pub in_time : Option ℕ → ℕ → Bool
in_time None t = true
in_time (Some first) t = leb t first

-- what was found, or item t if its edge is zero and it does not come later
unfoldable pub earlier : Option ℕ → ℕ → Float → Option ℕ
earlier found t e = cond (eq e zero && in_time found t) (Some t) found

-- the edge of what was found, 0 if nothing was
abbrev pub found_edge : (ℕ → Float) → Option ℕ → Float
found_edge e None = zero
found_edge e (Some t) = e t

-- the edge of the first of the items whose edge is zero
abbrev pub zero_edge : (ℕ → Float) → List ℕ → Float
zero_edge e items = found_edge e (first_zero e items)

-- an edge of the join in whatever order: one that is zero is taken from the lowest-numbered item whose edge is zero
unfoldable pub settled_edge : Mesh → List ℕ → Bool → ℕ → Float → Float
settled_edge m items upper axis v = cond (eq v zero) (zero_edge (own_edge m upper axis) (sorted items)) v

-- the join in whatever order, with its edges settled
unfoldable pub settled_box : Mesh → List ℕ → BoundingBox → BoundingBox
settled_box m items b =
    box
    (vec (settled_edge m items false 0 b.min.x) (settled_edge m items false 1 b.min.y) (settled_edge m items false 2 b.min.z))
    (vec (settled_edge m items true 0 b.max.x) (settled_edge m items true 1 b.max.y) (settled_edge m items true 2 b.max.z))

-- ---- the box of an inner node

-- whether two floats are equal as numbers and not the same: zeros of unlike sign
unfoldable pub unlike : Float → Float → Bool
unlike a b = eq a b && not (eqb (order_key a) (order_key b))

-- an edge of the box of items from those of their halves: of zeros of unlike sign it is that of the lowest-numbered item whose edge is zero
unfoldable pub joined_edge : Mesh → List ℕ → Bool → ℕ → Float → Float → Float
joined_edge m items upper axis a b = cond (unlike a b) (zero_edge (own_edge m upper axis) (sorted items)) (pick upper a b)

-- the three lower edges, or the upper ones
unfoldable pub joined_end : Mesh → List ℕ → Bool → Vec3 → Vec3 → Vec3
joined_end m items upper a b =
    vec (joined_edge m items upper 0 a.x b.x) (joined_edge m items upper 1 a.y b.y) (joined_edge m items upper 2 a.z b.z)

-- the box of items from those of their halves
unfoldable pub joined_box : Mesh → List ℕ → BoundingBox → BoundingBox → BoundingBox
joined_box m items a b = box (joined_end m items false a.min b.min) (joined_end m items true a.max b.max)
