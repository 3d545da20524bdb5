-- csx's distances from a segment (geom.rs), with document 01's `hypot`. Definitions only.
use Rattle.std.specs.Prelude.{cond, Float}
use Rattle.std.specs.Float.Ieee.{lt}
use Rattle.float.specs.Arithmetic.{◌⊕◌, ◌⊖◌, ◌⊗◌, ◌⊘◌, zero, one}
use Rattle.float.specs.Rules.{clamp}
use Rattle.sqrt.specs.Root.{root}
use Rattle.math.specs.declared.Vec3.{Vec3}
use Rattle.math.specs.Vectors as Vectors
use Rattle.geom.specs.declared.Point2.{Point2}

-- the square root of a × a + b × b, each step rounded
unfoldable pub hypot : Float → Float → Float
hypot a b = root (a ⊗ a ⊕ b ⊗ b)

-- where on a segment the nearest point lies, from 0 to 1: its start if the segment has no length
unfoldable pub parameter : Float → Float → Float
parameter along l2 = cond (lt zero l2) (clamp (along ⊘ l2) zero one) zero

-- the distance from p to the segment from a to b in a plane
unfoldable pub dist_point_segment2d : Point2 → Point2 → Point2 → Float
dist_point_segment2d p a b =
    let dx = b.u ⊖ a.u in
    let dy = b.v ⊖ a.v in
    let t = parameter ((p.u ⊖ a.u) ⊗ dx ⊕ (p.v ⊖ a.v) ⊗ dy) (dx ⊗ dx ⊕ dy ⊗ dy) in
    hypot (p.u ⊖ a.u ⊖ t ⊗ dx) (p.v ⊖ a.v ⊖ t ⊗ dy)

-- the distance from p to the segment from a to b
unfoldable pub dist_point_segment : Vec3 → Vec3 → Vec3 → Float
dist_point_segment p a b =
    let d = Vectors.sub b a in
    let t = parameter (Vectors.dot (Vectors.sub p a) d) (Vectors.norm_sq d) in
    Vectors.norm (Vectors.sub p (Vectors.add a (Vectors.mul d t)))
