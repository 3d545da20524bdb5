-- csx's `BoundingBox` (math.rs): each method as csx writes it, and `join` and `encloses` for box trees. Definitions only.
use Rattle.std.specs.Prelude.{Bool, true, false, not, cond, ◌&&◌, ◌||◌, ℕ, ◌+◌, List, [], ◌∷◌, Float}
use Rattle.std.specs.Float.{inf}
use Rattle.std.specs.Float.Ieee.{le, lt}
use Rattle.std.specs.Int.{from_bool}
use Rattle.float.specs.Arithmetic.{half}
use Rattle.math.specs.declared.BoundingBox.{BoundingBox}
use Rattle.math.specs.declared.Vec3.{Vec3}
use Rattle.math.specs.Vectors as Vectors
use Rattle.math.specs.Vectors.{vec}

-- the box with these lowest and highest corners
abbrev pub box : Vec3 → Vec3 → BoundingBox
box lo hi = record { min = lo; max = hi }

-- the empty box: every minimum is +∞, every maximum −∞
unfoldable pub empty : BoundingBox
empty = box (vec (inf false) (inf false) (inf false)) (vec (inf true) (inf true) (inf true))

-- the box that two opposite corners span
unfoldable pub from_corners : Vec3 → Vec3 → BoundingBox
from_corners a b = box (Vectors.min a b) (Vectors.max a b)

-- whether on some axis the minimum is not at most the maximum, NaN included
unfoldable pub is_empty : BoundingBox → Bool
is_empty b = not (le b.min.x b.max.x) || not (le b.min.y b.max.y) || not (le b.min.z b.max.z)

-- the box grown to contain a point
unfoldable pub include : BoundingBox → Vec3 → BoundingBox
include b p = box (Vectors.min b.min p) (Vectors.max b.max p)

-- the box grown to contain points in their order
unfoldable pub include_all : BoundingBox → List Vec3 → BoundingBox
include_all b [] = b
include_all b (p ∷ rest) = include_all (include b p) rest

-- the smallest box that contains points
unfoldable pub from_points : List Vec3 → BoundingBox
from_points ps = include_all empty ps

-- the box around two boxes, edge by edge; of two equal zeros the left one is kept
unfoldable pub join : BoundingBox → BoundingBox → BoundingBox
join a b = box (Vectors.min a.min b.min) (Vectors.max a.max b.max)

-- the smallest box around two; an empty one adds nothing
unfoldable pub union : BoundingBox → BoundingBox → BoundingBox
union a b = cond (is_empty a) b (cond (is_empty b) a (join a b))

-- the box that two boxes have in common; empty if they have no point in common
unfoldable pub intersection : BoundingBox → BoundingBox → BoundingBox
intersection a b = box (Vectors.max a.min b.min) (Vectors.min a.max b.max)

-- whether two closed boxes have a point in common, compared as numbers
unfoldable pub intersects : BoundingBox → BoundingBox → Bool
intersects a b =
    le a.min.x b.max.x && le b.min.x a.max.x
    && (le a.min.y b.max.y && le b.min.y a.max.y)
    && (le a.min.z b.max.z && le b.min.z a.max.z)

-- whether box b encloses box c, compared as numbers
unfoldable pub encloses : BoundingBox → BoundingBox → Bool
encloses b c =
    le b.min.x c.min.x && le b.min.y c.min.y && le b.min.z c.min.z
    && le c.max.x b.max.x
    && le c.max.y b.max.y
    && le c.max.z b.max.z

-- the box larger by d on every side
unfoldable pub expanded : BoundingBox → Float → BoundingBox
expanded b d = box (Vectors.sub b.min (vec d d d)) (Vectors.add b.max (vec d d d))

-- whether the point lies in the closed box
unfoldable pub contains : BoundingBox → Vec3 → Bool
contains b p =
    le b.min.x p.x && le p.x b.max.x
    && (le b.min.y p.y && le p.y b.max.y)
    && (le b.min.z p.z && le p.z b.max.z)

-- the extent along each axis
unfoldable pub size : BoundingBox → Vec3
size b = Vectors.sub b.max b.min

-- the middle of the box
unfoldable pub center : BoundingBox → Vec3
center b = Vectors.mul (Vectors.add b.min b.max) half

-- the eight corners: x changes from one to the next, then y, then z
unfoldable pub corners : BoundingBox → List Vec3
corners b =
    vec b.min.x b.min.y b.min.z
    ∷ vec b.max.x b.min.y b.min.z
    ∷ vec b.min.x b.max.y b.min.z
    ∷ vec b.max.x b.max.y b.min.z
    ∷ vec b.min.x b.min.y b.max.z
    ∷ vec b.max.x b.min.y b.max.z
    ∷ vec b.min.x b.max.y b.max.z
    ∷ vec b.max.x b.max.y b.max.z
    ∷ []

-- the number of axes along which the box has an extent
unfoldable pub dimension : BoundingBox → ℕ
dimension b = from_bool (lt b.min.x b.max.x) + from_bool (lt b.min.y b.max.y) + from_bool (lt b.min.z b.max.z)
