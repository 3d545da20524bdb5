-- Written out, so that a wrong `plane_axes` is refused at once.
use Prim.Native.Nat.{◌+◌, ◌%◌}
use native.Mathlib.Omega.{arith}
use Rattle.std.proofs.Common.{◌≡◌}
use Rattle.shapes.specs.Planes.{plane_axes}
use Rattle.shapes.proofs.poly.plane_axes.Goals as goal

pub returns : goal.returns
unfolding plane_axes
returns c =
    let n = c.args.n in
    let u : (n % 3 + 1) % 3 ≡ (n + 1) % 3 = omega arith in
    let v : (n % 3 + 2) % 3 ≡ (n + 2) % 3 = omega arith in
    rw (u, v)
