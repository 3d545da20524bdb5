-- Membership of spheres, cylinders and their shells (csx's basic.rs), in csx's order of steps. Definitions only.
use Rattle.std.specs.Prelude.{Bool, false, cond, ◌&&◌, Option, Some, None, Float}
use Rattle.std.specs.Float.Ieee.{neg, le, eq}
use Rattle.float.specs.Arithmetic.{◌⊕◌, ◌⊖◌, ◌⊘◌, zero, one, two}
use Rattle.float.specs.Rules.{abs}
use Rattle.sqrt.specs.Root.{root}
use Rattle.geom.specs.Tolerance.{tol}
use Rattle.math.specs.declared.Vec3.{Vec3}
use Rattle.math.specs.Vectors.{add, sub, mul, dot, norm, norm_sq}
use Rattle.shapes.specs.declared.basic.Along.{Along}

-- the distance from the centre is at most the radius
unfoldable pub inside_sphere : Vec3 → Float → Vec3 → Bool
inside_sphere center radius p = le (norm (sub p center)) (radius ⊕ tol radius zero)

-- the distance d is within half the width of the radius; the sign of the width is ignored
unfoldable pub in_shell : Float → Float → Float → Bool
in_shell d radius width = let w = abs width ⊘ two in le (abs (d ⊖ radius)) (w ⊕ tol radius w)

-- the distance from the centre is in the shell
unfoldable pub inside_spherical_shell : Vec3 → Float → Float → Vec3 → Bool
inside_spherical_shell center radius width p = in_shell (norm (sub p center)) radius width

-- where p lies along the axis from a to b: nowhere if the axis has no length
unfoldable pub axial : Vec3 → Vec3 → Vec3 → Option Along
axial a b p =
    let axis = sub b a in
    let l2 = norm_sq axis in
    let t = dot (sub p a) axis ⊘ l2 in
    cond (eq l2 zero) None (Some record { t = t; d = norm (sub p (add a (mul axis t))); len = root l2 })

-- t from 0 to 1 with a tolerance relative to the length
unfoldable pub between_ends : Float → Float → Bool
between_ends t len = let tt = tol len zero ⊘ len in le (neg tt) t && le t (one ⊕ tt)

-- between the ends, and at most the radius from the axis
unfoldable pub in_cylinder : Float → Option Along → Bool
in_cylinder radius None = false
in_cylinder radius (Some along) = between_ends along.t along.len && le along.d (radius ⊕ tol radius zero)

-- the solid cylinder around the axis from start to stop
unfoldable pub inside_cylinder : Vec3 → Vec3 → Float → Vec3 → Bool
inside_cylinder start stop radius p = in_cylinder radius (axial start stop p)

-- between the ends, and within half the width of the radius from the axis
unfoldable pub in_tube : Float → Float → Option Along → Bool
in_tube radius width None = false
in_tube radius width (Some along) = between_ends along.t along.len && in_shell along.d radius width

-- the tube around the axis from start to stop
unfoldable pub inside_cylindrical_shell : Vec3 → Vec3 → Float → Float → Vec3 → Bool
inside_cylindrical_shell start stop radius width p = in_tube radius width (axial start stop p)
