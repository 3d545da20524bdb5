-- `csx_from_triangles` meets its contract: what `ask_triangles` and `from_triangles` promise, with the test of the sizes, is the verdict and
-- what it leaves in the buffers.
use mathlib.Core.Path.{◌≡◌, sym, ◌∙◌}
use borrow.Author.Tests.{lt-leb}
use Rattle.std.specs.Prelude.{Err}
use Rattle.refusal.specs.declared.Refusal.TheVariants.{Room}
use Rattle.c_meshes.specs.WeldCall.{weld_call_verdict}
use Rattle.c_meshes.proofs.Welding.{refused, welding_refused, welding_passed}
use Rattle.c_meshes.proofs.meshes.csx_from_triangles.Goals as goal

pub returns-in-Err : goal.returns-in-Err
unfolding weld_call_verdict
returns-in-Err c =
    let a = c.args in
    let asked = sym c.ask_triangles.ensures ∙ c.in-Err.is in
    let said : weld_call_verdict a.triangles.now a.coords.now a.corners.now a.ends.now a.sizes.now ≡ Err c.in-Err.refusal = rw asked in
    rw c.code.ensures (refused a.triangles.now a.coords.now a.corners.now a.ends.now a.sizes.now _ said)

pub returns-in-Ok : goal.returns-in-Ok
unfolding weld_call_verdict
returns-in-Ok c =
    let a = c.args in
    let asked = sym c.ask_triangles.ensures ∙ c.in-Ok.is in
    let short = lt-leb _ _ c.if-sizes-lt2.true in
    let said : weld_call_verdict a.triangles.now a.coords.now a.corners.now a.ends.now a.sizes.now ≡ Err Room = rw (asked, short) in
    rw c.code-in-Ok.ensures (refused a.triangles.now a.coords.now a.corners.now a.ends.now a.sizes.now Room said)

pub returns-in-Err-from_triangles : goal.returns-in-Err-from_triangles
returns-in-Err-from_triangles c =
    let a = c.args in
    let welded = c.from_triangles.ensures in
    let room = c.if-sizes-lt2.false in
    rw c.code-in-Err-from_triangles.ensures (welding_refused a.triangles.now a.coords.now a.corners.now a.ends.now a.sizes.now _ _ _ _ welded room _ c.in-Err-from_triangles.is)

pub returns-in-Ok-from_triangles : goal.returns-in-Ok-from_triangles
returns-in-Ok-from_triangles c =
    let a = c.args in
    let welded = c.from_triangles.ensures in
    let room = c.if-sizes-lt2.false in
    welding_passed a.triangles.now a.coords.now a.corners.now a.ends.now a.sizes.now _ _ _ _ welded room _ c.in-Ok-from_triangles.is
