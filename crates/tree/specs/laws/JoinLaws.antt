-- The laws of joining boxes whose edges are numbers: a box encloses a join exactly when it encloses both parts.
use Rattle.std.specs.Prelude.{ℕ, ◌≡◌, refl, Bool, true, false, cond, ◌&&◌, ◌||◌, T, Float}
use Rattle.std.specs.Float.Ieee.{eq, ne, lt, le, is_nan}
use Rattle.std.specs.Float.Ieee.Bits.{is_true}
use Rattle.std.specs.Float.Ieee.Fits.{and_i, and_l, and_r}
use Rattle.float.specs.Rules as Rules
use Rattle.float.specs.laws.NumberTests.{same}
use Rattle.float.specs.laws.Order.{Number, le_refl, le_trans, le_antisym, lt_number_left, lt_number_right, le_min, min_le_left, min_le_right, max_le, le_max_left, le_max_right}
use Rattle.math.specs.declared.Vec3.{Vec3}
use Rattle.math.specs.declared.BoundingBox.{BoundingBox}
use Rattle.math.specs.Vectors as Vectors
use Rattle.math.specs.BoundingBoxes.{box, empty, include, encloses, join}
use Rattle.mesh.specs.MeshBoxes.{triangle_box}
use Rattle.mesh.specs.Mesh.{Mesh, own_box}

-- the components of the vector are numbers
pub record NumberVec (a : Vec3) : Type 0 where
  pub x : Number a.x
  pub y : Number a.y
  pub z : Number a.z

-- the edges of the box are numbers
pub record NumberBox (b : BoundingBox) : Type 0 where
  pub min : NumberVec b.min
  pub max : NumberVec b.max

-- ---- edges

-- what is at most a minimum is what is at most both
at_most_min : (c a b : Float) → Number a → Number b → le c (Rules.min a b) ≡ (le c a && le c b)
at_most_min c a b p q =
    same (le c (Rules.min a b)) (le c a && le c b)
    (λ h. and_i (le c a) (le c b) (le_trans c (Rules.min a b) a h (min_le_left a b p q)) (le_trans c (Rules.min a b) b h (min_le_right a b p q)))
    (λ h. le_min c a b (and_l (le c a) (le c b) h) (and_r (le c a) (le c b) h))

-- what a maximum is at most is what both are at most
max_at_most : (a b c : Float) → Number a → Number b → le (Rules.max a b) c ≡ (le a c && le b c)
max_at_most a b c p q =
    same (le (Rules.max a b) c) (le a c && le b c)
    (λ h. and_i (le a c) (le b c) (le_trans a (Rules.max a b) c (le_max_left a b p q) h) (le_trans b (Rules.max a b) c (le_max_right a b p q) h))
    (λ h. max_le a b c (and_l (le a c) (le b c) h) (and_r (le a c) (le b c) h))

-- ---- boxes

-- two pairs of tests, taken the other way
pairs : (a b c d : Bool) → ((a && b) && (c && d)) ≡ ((a && c) && (b && d))
pairs false b c d = refl
pairs true false false d = refl
pairs true false true d = refl
pairs true true c d = refl

six_pairs : (a b c d e f a' b' c' d' e' f' : Bool) → ((a && a') && (b && b') && (c && c') && (d && d') && (e && e') && (f && f')) ≡ ((a && b && c && d && e && f) && (a' && b' && c' && d' && e' && f'))
six_pairs a b c d e f a' b' c' d' e' f' =
    rw
    (pairs a a' b b', pairs (a && b) (a' && b') c c', pairs (a && b && c) (a' && b' && c') d d', pairs (a && b && c && d) (a' && b' && c' && d') e e', pairs (a && b && c && d && e) (a' && b' && c' && d' && e') f f')

-- a box encloses a join exactly when it encloses both parts
pub encloses_join : (n b c : BoundingBox) → NumberBox b → NumberBox c → encloses n (join b c) ≡ (encloses n b && encloses n c)
unfolding encloses join Vectors.min Vectors.max
encloses_join n b c p q =
    rw (
      at_most_min n.min.x b.min.x c.min.x p.min.x q.min.x,
      at_most_min n.min.y b.min.y c.min.y p.min.y q.min.y,
      at_most_min n.min.z b.min.z c.min.z p.min.z q.min.z,
      max_at_most b.max.x c.max.x n.max.x p.max.x q.max.x,
      max_at_most b.max.y c.max.y n.max.y p.max.y q.max.y,
      max_at_most b.max.z c.max.z n.max.z p.max.z q.max.z,
      six_pairs,
    )

-- such a box encloses itself
pub encloses_self : (b : BoundingBox) → NumberBox b → encloses b b ≡ true
unfolding encloses
encloses_self b p =
    rw (itself b.min.x p.min.x, itself b.min.y p.min.y, itself b.min.z p.min.z, itself b.max.x p.max.x, itself b.max.y p.max.y, itself b.max.z p.max.z)
  where
    itself : (x : Float) → Number x → le x x ≡ true
    itself x h = is_true (le x x) (le_refl x h)

-- ---- boxes of numbers

-- the choice between a number and another float, which is taken only if it is a number
kept : (t : Bool) (a b : Float) → (T t → Number b) → Number a → Number (cond (t || ne a a) b a)
unfolding ne
kept true a b f p = f tt
kept false a b f p = rw (is_true (eq a a) (le_antisym a a (le_refl a p) (le_refl a p))) p

-- the minimum of a number and any float is a number
min_kept : (a b : Float) → Number a → Number (Rules.min a b)
unfolding Rules.min
min_kept a b p = kept (lt b a) a b (lt_number_left b a) p

-- and so is the maximum
max_kept : (a b : Float) → Number a → Number (Rules.max a b)
unfolding Rules.max
max_kept a b p = kept (lt a b) a b (lt_number_right a b) p

-- such a box joined with any box is one
pub join_numbers : {b : BoundingBox} (c : BoundingBox) → NumberBox b → NumberBox (join b c)
unfolding join Vectors.min Vectors.max
join_numbers c p =
    record {
      min = record { x = min_kept _ _ p.min.x; y = min_kept _ _ p.min.y; z = min_kept _ _ p.min.z };
      max = record { x = max_kept _ _ p.max.x; y = max_kept _ _ p.max.y; z = max_kept _ _ p.max.z };
    }

include_numbers : {b : BoundingBox} (p : Vec3) → NumberBox b → NumberBox (include b p)
unfolding include join
include_numbers p h = join_numbers (box p p) h

empty_numbers : NumberBox empty
unfolding empty is_nan
empty_numbers = record { min = record { x = tt; y = tt; z = tt }; max = record { x = tt; y = tt; z = tt } }

-- a triangle's own box is one, whatever the vertices are
pub own_box_numbers : (m : Mesh) (t : ℕ) → NumberBox (own_box m t)
unfolding own_box triangle_box
own_box_numbers m t = include_numbers _ (include_numbers _ (include_numbers _ empty_numbers))
