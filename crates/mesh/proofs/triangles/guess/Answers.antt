-- `guess` meets its contract: t is below the number of triangles, so the quotient is below the number of faces.
use Prim.Native.Nat.{◌*◌, ◌≤◌, ◌<◌}
use native.Mathlib.Nat.{mul-le-mul, mul-lt-mul_of_pos_left, div-lt_iff_lt-mul, mul_comm}
use native.Mathlib.Omega.{arith}
use Rattle.mesh.proofs.triangles.guess.Goals as goal

pub overflow_mul-result : goal.overflow_mul-result
overflow_mul-result c =
    let below : c.args.t ≤ 4294967296 = omega arith in
    let few : c.args.t * c.args.faces ≤ 4294967296 * 65536 = mul-le-mul below c.requires.1 in
    omega arith

pub returns : goal.returns
returns c =
    let below : c.args.faces * c.args.t < c.args.faces * c.args.triangles = mul-lt-mul_of_pos_left c.requires.3 c.requires.0 in
    let swapped : c.args.t * c.args.faces < c.args.faces * c.args.triangles = rw (mul_comm c.args.t c.args.faces) below in
    let some : 0 < c.args.triangles = omega arith in
    (div-lt_iff_lt-mul {k = c.args.triangles} {x = c.args.t * c.args.faces} {y = c.args.faces} some).1 swapped
