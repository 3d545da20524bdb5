-- csx's `closest_on_triangle` (polyhedron.rs, after Ericson): each step as csx writes it, with csx's comparisons. Definitions only.
use Rattle.std.specs.Prelude.{cond, ◌&&◌, Float}
use Rattle.std.specs.Float.Ieee.{eq, le}
use Rattle.float.specs.Arithmetic.{◌⊕◌, ◌⊖◌, ◌⊗◌, ◌⊘◌, zero}
use Rattle.math.specs.declared.Vec3.{Vec3}
use Rattle.math.specs.Vectors.{add, sub, mul, dot}
use Rattle.scan.specs.declared.closest.Products.{Products}

-- the dot products of the edges ab and ac with the ways from a, b and c to p
unfoldable pub products_of : Vec3 → Vec3 → Vec3 → Vec3 → Products
products_of p a b c =
    let ab = sub b a in
    let ac = sub c a in
    record {
      d1 = dot ab (sub p a);
      d2 = dot ac (sub p a);
      d3 = dot ab (sub p b);
      d4 = dot ac (sub p b);
      d5 = dot ab (sub p c);
      d6 = dot ac (sub p c);
    }

-- the point at t times the way d from a
unfoldable pub along : Vec3 → Vec3 → Float → Vec3
along a d t = add a (mul d t)

-- csx's va, vb and vc
unfoldable pub va : Products → Float
va d = d.d3 ⊗ d.d6 ⊖ d.d5 ⊗ d.d4

unfoldable pub vb : Products → Float
vb d = d.d5 ⊗ d.d2 ⊖ d.d1 ⊗ d.d6

unfoldable pub vc : Products → Float
vc d = d.d1 ⊗ d.d4 ⊖ d.d3 ⊗ d.d2

-- the nearest point where it lies in the triangle's inside: a if the sum of the three vanishes
unfoldable pub inner : Vec3 → Vec3 → Vec3 → Products → Vec3
inner a b c d =
    let denom = va d ⊕ vb d ⊕ vc d in
    cond (eq denom zero) a (add (along a (sub b a) (vb d ⊘ denom)) (mul (sub c a) (vc d ⊘ denom)))

-- the nearest point: a, b, on ab, c, on ac, on bc, or inside, the first whose test holds
unfoldable pub nearest : Vec3 → Vec3 → Vec3 → Products → Vec3
nearest a b c d =
    cond
    (le d.d1 zero && le d.d2 zero)
    a
    (cond
    (le zero d.d3 && le d.d4 d.d3)
    b
    (cond
    (le (vc d) zero && le zero d.d1 && le d.d3 zero)
    (along a (sub b a) (d.d1 ⊘ (d.d1 ⊖ d.d3)))
    (cond
    (le zero d.d6 && le d.d5 d.d6)
    c
    (cond
    (le (vb d) zero && le zero d.d2 && le d.d6 zero)
    (along a (sub c a) (d.d2 ⊘ (d.d2 ⊖ d.d6)))
    (cond
    (le (va d) zero && le zero (d.d4 ⊖ d.d3) && le zero (d.d5 ⊖ d.d6))
    (along b (sub c b) ((d.d4 ⊖ d.d3) ⊘ (d.d4 ⊖ d.d3 ⊕ (d.d5 ⊖ d.d6))))
    (inner a b c d))))))

-- the point of the triangle a, b, c that is nearest to p
unfoldable pub closest_on_triangle : Vec3 → Vec3 → Vec3 → Vec3 → Vec3
closest_on_triangle p a b c = nearest a b c (products_of p a b c)
