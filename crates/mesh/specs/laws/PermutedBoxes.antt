-- The mesh's box does not depend on the order of the vertices, but for the signs of zeros; and neither the grown-box test nor the
-- tolerance of the surface test depends on those.
use Rattle.std.specs.Prelude.{◌≡◌, Bool, true, false, cond, ◌||◌, List, [], ◌∷◌, T, Float}
use Rattle.std.proofs.Math.Path.{refl}
use Rattle.std.proofs.Common.{ap, inl, inr}
use Rattle.std.specs.Float.{inf, binary64}
use Rattle.std.specs.Float.Ieee.{fits, is_nan, of_bits, le, lt, ne}
use Rattle.float.specs.Arithmetic.{zero}
use Rattle.float.specs.Rules as Rules
use Rattle.float.specs.laws.Order.{Number, is_zero, Alike, alike_refl, mul_alike, max_alike, lt_alike, eq_alike, le_antisym, le_trans, le_min, min_le_left, min_le_right, min_number, max_le, le_max_left, le_max_right, max_number}
use Rattle.math.specs.declared.Vec3.{Vec3}
use Rattle.math.specs.declared.BoundingBox.{BoundingBox}
use Rattle.math.specs.Vectors as Vectors
use Rattle.math.specs.BoundingBoxes.{empty, include, include_all, from_points, contains}
use Rattle.math.specs.laws.Alike.{AlikeBox, alike_box_refl, alike_box_trans, include_alike, norm_alike, size_alike, expanded_alike, contains_alike}
use Rattle.geom.specs.Tolerance.{rel_tol, least_magnitude, tol_of}
use Rattle.lent.specs.Reordered.{Reordered, none, keep, exchange, twice}
use Rattle.lent.specs.Every.{Every}
use Rattle.lent.specs.laws.ReorderedLaws.{every_reordered}
use Rattle.mesh.specs.MeshBoxes.{mesh_box, surface_eps, grown}

-- a number of the format f64
pub record F64 (x : Float) : Type 0 where
  pub number : Number x
  pub fit : T (fits binary64 x)

-- a vector of such numbers
pub record F64Vec (a : Vec3) : Type 0 where
  pub x : F64 a.x
  pub y : F64 a.y
  pub z : F64 a.z

-- a box of such numbers
pub record F64Box (b : BoundingBox) : Type 0 where
  pub min : F64Vec b.min
  pub max : F64Vec b.max

-- all vectors of a list are such
abbrev pub AllF64 : List Vec3 → Type 0
AllF64 vectors = Every F64Vec vectors

chosen_fits : (t : Bool) (a b : Float) → T (fits binary64 a) → T (fits binary64 b) → T (fits binary64 (cond t b a))
chosen_fits true a b p q = q
chosen_fits false a b p q = p

min_f64 : {a b : Float} → F64 a → F64 b → F64 (Rules.min a b)
unfolding Rules.min
min_f64 {a} {b} p q = record { number = min_number a b p.number q.number; fit = chosen_fits (lt b a || ne a a) a b p.fit q.fit }

max_f64 : {a b : Float} → F64 a → F64 b → F64 (Rules.max a b)
unfolding Rules.max
max_f64 {a} {b} p q = record { number = max_number a b p.number q.number; fit = chosen_fits (lt a b || ne a a) a b p.fit q.fit }

-- two values of the format that are at most each other are alike
alike_of : {x y : Float} → F64 x → F64 y → T (le x y) → T (le y x) → Alike x y
alike_of {x} {y} p q h k = eq_alike binary64 x y p.fit q.fit (le_antisym x y h k)

-- the order of two does not matter to a minimum
min_exchange : (a x y : Float) → F64 a → F64 x → F64 y → Alike (Rules.min (Rules.min a x) y) (Rules.min (Rules.min a y) x)
min_exchange a x y p q r = alike_of (min_f64 (min_f64 p q) r) (min_f64 (min_f64 p r) q) (half a x y p q r) (half a y x p r q)
  where
    half : (a x y : Float) → F64 a → F64 x → F64 y → T (le (Rules.min (Rules.min a x) y) (Rules.min (Rules.min a y) x))
    half a x y p q r =
        let inner = Rules.min a x in
        let all = Rules.min inner y in
        let n = min_number a x p.number q.number in
        let low = min_le_left inner y n r.number in
        le_min all (Rules.min a y) x
        (le_min all a y (le_trans all inner a low (min_le_left a x p.number q.number)) (min_le_right inner y n r.number))
        (le_trans all inner x low (min_le_right a x p.number q.number))

-- nor to a maximum
max_exchange : (a x y : Float) → F64 a → F64 x → F64 y → Alike (Rules.max (Rules.max a x) y) (Rules.max (Rules.max a y) x)
max_exchange a x y p q r = alike_of (max_f64 (max_f64 p q) r) (max_f64 (max_f64 p r) q) (half a x y p q r) (half a y x p r q)
  where
    half : (a x y : Float) → F64 a → F64 x → F64 y → T (le (Rules.max (Rules.max a x) y) (Rules.max (Rules.max a y) x))
    half a x y p q r =
        let inner = Rules.max a y in
        let all = Rules.max inner x in
        let n = max_number a y p.number r.number in
        let high = le_max_left inner x n q.number in
        max_le (Rules.max a x) y all
        (max_le a x all (le_trans a inner all (le_max_left a y p.number r.number) high) (le_max_right inner x n q.number))
        (le_trans y inner all (le_max_right a y p.number r.number) high)

include_f64 : {b : BoundingBox} {p : Vec3} → F64Box b → F64Vec p → F64Box (include b p)
unfolding include Vectors.min Vectors.max
include_f64 h k =
    record {
      min = record { x = min_f64 h.min.x k.x; y = min_f64 h.min.y k.y; z = min_f64 h.min.z k.z };
      max = record { x = max_f64 h.max.x k.x; y = max_f64 h.max.y k.y; z = max_f64 h.max.z k.z };
    }

-- nor to a box
include_exchange : (b : BoundingBox) (p q : Vec3) → F64Box b → F64Vec p → F64Vec q → AlikeBox (include (include b p) q) (include (include b q) p)
unfolding include Vectors.min Vectors.max
include_exchange b p q h k l =
    record {
      min = record { x = min_exchange _ _ _ h.min.x k.x l.x; y = min_exchange _ _ _ h.min.y k.y l.y; z = min_exchange _ _ _ h.min.z k.z l.z };
      max = record { x = max_exchange _ _ _ h.max.x k.x l.x; y = max_exchange _ _ _ h.max.y k.y l.y; z = max_exchange _ _ _ h.max.z k.z l.z };
    }

-- boxes that are alike stay so
include_all_alike : {a b : BoundingBox} (ps : List Vec3) → AlikeBox a b → AlikeBox (include_all a ps) (include_all b ps)
unfolding include_all
include_all_alike [] h = h
include_all_alike {a = a} {b = b} (p ∷ rest) h = include_all_alike {a = include a p} {b = include b p} rest (include_alike p h)

-- the box of points in another order is alike
pub include_all_reordered : {l m : List Vec3} → Reordered l m → (b : BoundingBox) → F64Box b → AllF64 l → AlikeBox (include_all b l) (include_all b m)
unfolding include_all
include_all_reordered none b f h = alike_box_refl b
include_all_reordered (keep x r) b f h = include_all_reordered r (include b x) (include_f64 f h.0) h.1
include_all_reordered (exchange x y l) b f h = include_all_alike l (include_exchange b x y f h.0 h.1.0)
include_all_reordered (twice r s) b f h = alike_box_trans (include_all_reordered r b f h) (include_all_reordered s b f (every_reordered F64Vec r h))

infinity_f64 : (s : Bool) → F64 (inf s)
unfolding fits is_nan
infinity_f64 s = record { number = tt; fit = tt }

empty_f64 : F64Box empty
unfolding empty
empty_f64 =
    let low = infinity_f64 false in
    let high = infinity_f64 true in
    record { min = record { x = low; y = low; z = low }; max = record { x = high; y = high; z = high } }

-- the mesh's box of reordered vertices is the same but for the signs of zeros
pub mesh_box_reordered : (coords coords' : List Float) → AllF64 (Vectors.points coords) → Reordered (Vectors.points coords) (Vectors.points coords') → AlikeBox (mesh_box coords) (mesh_box coords')
unfolding mesh_box from_points
mesh_box_reordered coords coords' h r = include_all_reordered r empty empty_f64 h

-- a zero is below the least magnitude
least_above : (m : Float) → T (is_zero m) → Rules.max m least_magnitude ≡ least_magnitude
unfolding Rules.max
least_above m z =
    let below : lt zero least_magnitude ≡ true = unfold lt of_bits in refl in
    let same : lt m least_magnitude ≡ lt zero least_magnitude = lt_alike (inr (z, unfold of_bits in tt)) (alike_refl least_magnitude) in
    rw (same, below)

-- the tolerance of a magnitude does not depend on the sign of a zero
pub tol_of_alike : {m n : Float} → Alike m n → tol_of m ≡ tol_of n
unfolding tol_of
tol_of_alike (inl e) = ap tol_of e
tol_of_alike {m} {n} (inr z) = rw (least_above m z.0, least_above n z.1)

-- boxes that are alike have the same tolerance of the surface test
pub surface_eps_alike : {a b : BoundingBox} → AlikeBox a b → surface_eps a ≡ surface_eps b
unfolding surface_eps
surface_eps_alike h = tol_of_alike (max_alike (max_alike (norm_alike (size_alike h)) (norm_alike h.max)) (norm_alike h.min))

-- and their grown boxes hold the same points
pub grown_contains : {a b : BoundingBox} (p : Vec3) → AlikeBox a b → contains (grown a) p ≡ contains (grown b) p
unfolding grown
grown_contains p h = contains_alike p (expanded_alike h (mul_alike binary64 (alike_refl rel_tol) (norm_alike (size_alike h))))
