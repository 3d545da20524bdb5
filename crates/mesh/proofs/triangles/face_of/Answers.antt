-- `face_of` meets its contract: the guess is tested by where its face begins and ends; else the search finds the face.
use Prim.Native.Nat.{◌+◌, ◌*◌, ◌<◌}
use native.Mathlib.Omega.{arith}
use lib.ListN.{length}
use Rattle.mesh.specs.steps.Fans.{start_from}
use Rattle.mesh.specs.laws.TriangleLaws.{some_face}
use Rattle.mesh.proofs.triangles.face_of.Goals as goal

pub guess-f-requires : goal.guess-f-requires
guess-f-requires c =
    let mesh = c.requires in
    let past : c.args.t + 2 * length c.args.ends.now < start_from 0 c.args.ends.now (length c.args.ends.now) = omega (arith, mesh.last, mesh.triangle) in
    (some_face c.args.ends.now c.args.t past, mesh.faces, mesh.few, mesh.triangle)

pub overflow_cast-ends : goal.overflow_cast-ends
overflow_cast-ends c = omega (arith, c.type_inv.ends c.guess-f.result)

pub returns-then-t-f : goal.returns-then-t-f
returns-then-t-f c = record { face = c.guess-f.ensures; from = omega (arith, c.start_of.ensures); to = c.if-t-f.true }
