-- Vectors and boxes that are the same but for the signs of zeros, and what does not depend on those.
use Rattle.std.specs.Prelude.{◌≡◌, Float}
use Rattle.std.specs.Float.{binary64}
use Rattle.float.specs.laws.Order.{Alike, alike_refl, alike_trans, add_alike, sub_alike, mul_alike, min_alike, max_alike, le_alike}
use Rattle.sqrt.proofs.RootTheorem.{root_alike}
use Rattle.math.specs.declared.Vec3.{Vec3}
use Rattle.math.specs.declared.BoundingBox.{BoundingBox}
use Rattle.math.specs.Vectors as Vectors
use Rattle.math.specs.BoundingBoxes as BoundingBoxes

-- the same but for the signs of zeros, component by component
pub record AlikeVec (a b : Vec3) : Type 0 where
  pub x : Alike a.x b.x
  pub y : Alike a.y b.y
  pub z : Alike a.z b.z

-- the same for both corners
pub record AlikeBox (a b : BoundingBox) : Type 0 where
  pub min : AlikeVec a.min b.min
  pub max : AlikeVec a.max b.max

pub alike_vec_refl : (a : Vec3) → AlikeVec a a
alike_vec_refl a = record { x = alike_refl a.x; y = alike_refl a.y; z = alike_refl a.z }

pub alike_vec_trans : {a b c : Vec3} → AlikeVec a b → AlikeVec b c → AlikeVec a c
alike_vec_trans h k = record { x = alike_trans h.x k.x; y = alike_trans h.y k.y; z = alike_trans h.z k.z }

pub alike_box_refl : (a : BoundingBox) → AlikeBox a a
alike_box_refl a = record { min = alike_vec_refl a.min; max = alike_vec_refl a.max }

pub alike_box_trans : {a b c : BoundingBox} → AlikeBox a b → AlikeBox b c → AlikeBox a c
alike_box_trans h k = record { min = alike_vec_trans h.min k.min; max = alike_vec_trans h.max k.max }

pub sub_alike_vec : {a a' b b' : Vec3} → AlikeVec a a' → AlikeVec b b' → AlikeVec (Vectors.sub a b) (Vectors.sub a' b')
unfolding Vectors.sub
sub_alike_vec h k = record { x = sub_alike binary64 h.x k.x; y = sub_alike binary64 h.y k.y; z = sub_alike binary64 h.z k.z }

pub add_alike_vec : {a a' b b' : Vec3} → AlikeVec a a' → AlikeVec b b' → AlikeVec (Vectors.add a b) (Vectors.add a' b')
unfolding Vectors.add
add_alike_vec h k = record { x = add_alike binary64 h.x k.x; y = add_alike binary64 h.y k.y; z = add_alike binary64 h.z k.z }

pub norm_alike : {a b : Vec3} → AlikeVec a b → Alike (Vectors.norm a) (Vectors.norm b)
unfolding Vectors.norm Vectors.norm_sq Vectors.dot
norm_alike h =
    root_alike
    (add_alike binary64
    (add_alike binary64 (mul_alike binary64 h.x h.x) (mul_alike binary64 h.y h.y))
    (mul_alike binary64 h.z h.z))

pub include_alike : {a b : BoundingBox} (p : Vec3) → AlikeBox a b → AlikeBox (BoundingBoxes.include a p) (BoundingBoxes.include b p)
unfolding BoundingBoxes.include Vectors.min Vectors.max
include_alike p h =
    record {
      min = record { x = min_alike h.min.x (alike_refl p.x); y = min_alike h.min.y (alike_refl p.y); z = min_alike h.min.z (alike_refl p.z) };
      max = record { x = max_alike h.max.x (alike_refl p.x); y = max_alike h.max.y (alike_refl p.y); z = max_alike h.max.z (alike_refl p.z) };
    }

pub size_alike : {a b : BoundingBox} → AlikeBox a b → AlikeVec (BoundingBoxes.size a) (BoundingBoxes.size b)
unfolding BoundingBoxes.size
size_alike h = sub_alike_vec h.max h.min

pub expanded_alike : {a b : BoundingBox} {d e : Float} → AlikeBox a b → Alike d e → AlikeBox (BoundingBoxes.expanded a d) (BoundingBoxes.expanded b e)
unfolding BoundingBoxes.expanded
expanded_alike {d = d} {e = e} h k =
    let same : AlikeVec (Vectors.vec d d d) (Vectors.vec e e e) = record { x = k; y = k; z = k } in
    record { min = sub_alike_vec h.min same; max = add_alike_vec h.max same }

-- whether a point lies in a box does not depend on the signs of zeros
pub contains_alike : {a b : BoundingBox} (p : Vec3) → AlikeBox a b → BoundingBoxes.contains a p ≡ BoundingBoxes.contains b p
unfolding BoundingBoxes.contains
contains_alike p h =
    rw
    (le_alike h.min.x (alike_refl p.x), le_alike (alike_refl p.x) h.max.x, le_alike h.min.y (alike_refl p.y), le_alike (alike_refl p.y) h.max.y, le_alike h.min.z (alike_refl p.z), le_alike (alike_refl p.z) h.max.z)
