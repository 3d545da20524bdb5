-- The box of a triangle's corners, axis by axis: if these are finite, it is not empty.
use Rattle.std.specs.Prelude.{◌≡◌, refl, true, false, Float}
use Rattle.std.specs.Float.Ieee.{le}
use Rattle.std.specs.Float.Ieee.Bits.{is_true}
use Rattle.float.specs.laws.Order.{Number, finite_number, le_trans, min_le_left, le_max_left, min_number, max_number, min_top, max_bottom}
use Rattle.float.specs.Rules.{min, max}
use Rattle.math.specs.declared.Vec3.{Vec3}
use Rattle.math.specs.declared.CornerPoints.{CornerPoints}
use Rattle.math.specs.Vectors as Vectors
use Rattle.math.specs.BoundingBoxes.{box, empty, is_empty, include}
use Rattle.math.specs.laws.Enclosing.{finite_vec}
use Rattle.math.specs.steps.Corners.{Finite, own_box, lowest, highest}

-- the box, axis by axis
pub box_by_axes : (t : CornerPoints)
    → own_box t
    ≡ box (Vectors.vec (lowest t.a.x t.b.x t.c.x) (lowest t.a.y t.b.y t.c.y) (lowest t.a.z t.b.z t.c.z)) (Vectors.vec (highest t.a.x t.b.x t.c.x) (highest t.a.y t.b.y t.c.y) (highest t.a.z t.b.z t.c.z))
unfolding own_box include empty Vectors.min Vectors.max
box_by_axes t = refl

-- the components of a vector are no NaN
abbrev pub Numbers : Vec3 → Type 0
Numbers v = Number v.x × Number v.y × Number v.z

-- those of a finite vector are none
pub numbers : (v : Vec3) → Vectors.is_finite v ≡ true → Numbers v
numbers v e =
    let f = finite_vec v e in
    (finite_number v.x f.0, finite_number v.y f.1, finite_number v.z f.2)

-- nor are those of finite corners, axis by axis
module _ {t : CornerPoints} (f : Finite t) where
  pub x_numbers : Number t.a.x × Number t.b.x
  x_numbers = ((numbers t.a f.a).0, (numbers t.b f.b).0)

  pub y_numbers : Number t.a.y × Number t.b.y
  y_numbers = ((numbers t.a f.a).1, (numbers t.b f.b).1)

  pub z_numbers : Number t.a.z × Number t.b.z
  z_numbers = ((numbers t.a f.a).2, (numbers t.b f.b).2)

-- of three numbers the lowest is at most the highest
lowest_highest : (a b c : Float) → Number a → Number b → Number c → le (lowest a b c) (highest a b c) ≡ true
lowest_highest a b c p q r =
    let low = min_number a b p q in
    let high = max_number a b p q in
    rw (min_top a p, max_bottom a p)
    (is_true _
    (le_trans (min (min a b) c) (min a b) (max (max a b) c) (min_le_left (min a b) c low r)
    (le_trans (min a b) a (max (max a b) c) (min_le_left a b p q)
    (le_trans a (max a b) (max (max a b) c) (le_max_left a b p q) (le_max_left (max a b) c high r)))))

-- so finite corners have a box that is not empty
pub box_some : (t : CornerPoints) → Finite t → is_empty (own_box t) ≡ false
unfolding is_empty
box_some t f =
    let c = numbers t.c f.c in
    let x = x_numbers f in
    let y = y_numbers f in
    let z = z_numbers f in
    rw
    (box_by_axes t, lowest_highest _ _ _ x.0 x.1 c.0, lowest_highest _ _ _ y.0 y.1 c.1, lowest_highest _ _ _ z.0 z.1 c.2)
