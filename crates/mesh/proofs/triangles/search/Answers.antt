use Prim.Native.Nat.{◌+◌, ◌/◌, ◌-◌}
use native.Mathlib.Omega.{arith}
use mathlib.Core.Path.{◌≡◌}
use Rattle.mesh.specs.steps.Fans.{start_from}
use Rattle.mesh.specs.laws.TriangleLaws.{start_from_before, start_from_next, some_face}
use Rattle.mesh.proofs.triangles.search.Goals as goal

pub loop-lo-init : goal.loop-lo-init
unfolding start_from
loop-lo-init c = (some_face c.args.ends.now c.args.t c.requires.2, omega arith, omega arith, c.requires.2)

pub overflow_cast-ends : goal.overflow_cast-ends
overflow_cast-ends c = omega (arith, c.type_inv.ends ((c.loop-lo.lo + c.loop-lo.hi) / 2 - 1))

pub loop-lo-preserved-then-ends-mid : goal.loop-lo-preserved-then-ends-mid
loop-lo-preserved-then-ends-mid c =
    let begin = start_from_before 0 c.args.ends.now ((c.loop-lo.lo + c.loop-lo.hi) / 2) (omega arith) (omega arith) in
    (omega arith, omega arith, omega arith, c.loop-lo.invariant.3)

pub loop-lo-preserved : goal.loop-lo-preserved
loop-lo-preserved c =
    let begin = start_from_before 0 c.args.ends.now ((c.loop-lo.lo + c.loop-lo.hi) / 2) (omega arith) (omega arith) in
    (omega arith, omega arith, c.loop-lo.invariant.2, omega arith)

pub returns : goal.returns
returns c =
    let ends = c.args.ends.now in
    let lo = c.loop-lo.lo in
    let next : c.loop-lo.hi ≡ lo + 1 = omega arith in
    let end = start_from_next 0 ends lo (omega arith) in
    let past = rw next at c.loop-lo.invariant.3 in
    record { face = omega arith; from = c.loop-lo.invariant.2; to = omega arith }
