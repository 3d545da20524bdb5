-- `start_of` meets its contract: a face begins at 0 or where the one before it ends.
use Prim.Native.Nat.{◌-◌}
use native.Mathlib.Omega.{arith}
use mathlib.Core.Path.{sym}
use Rattle.mesh.specs.steps.Fans.{start_from}
use Rattle.mesh.specs.laws.TriangleLaws.{start_from_before}
use Rattle.mesh.proofs.triangles.start_of.Goals as goal

pub returns-then-f-eq0 : goal.returns-then-f-eq0
unfolding start_from
returns-then-f-eq0 c = rw c.if-f-eq0.true

pub overflow_cast-result : goal.overflow_cast-result
overflow_cast-result c = omega (arith, c.type_inv.ends (c.args.f - 1))

pub returns : goal.returns
returns c = sym (start_from_before 0 c.args.ends.now c.args.f (omega arith) c.requires)
