use Prim.Native.Nat.{◌+◌}
use native.Mathlib.Omega.{arith}
use mathlib.Core.Path.{◌≡◌, sym, ◌∙◌}
use mathlib.Core.Bool.{true, false}
use lib.Dec.{eqb}
use lib.ListN.{get_or, drop_of_length-le}
use borrow.Author.Tests.{eq-eqb, ne_eqb}
use Rattle.mesh.specs.steps.Fans.{equal_faces}
use Rattle.mesh.specs.laws.TriangleLaws.{equal_faces_next}
use Rattle.mesh.proofs.triangles.equal_faces.Goals as goal

pub overflow_add-start : goal.overflow_add-start
overflow_add-start c = omega (arith, c.requires, c.loop-end.invariant.0)

pub returns-then-end-start : goal.returns-then-end-start
returns-then-end-start c =
    let l = c.loop-end in
    let other : eqb (get_or c.args.ends.now l.end-index 0) (l.start + c.args.sides) ≡ false = ne_eqb _ _ c.if-end-start.true in
    sym (equal_faces_next c.args.sides l.start c.args.ends.now l.end-index (omega arith) ∙ rw other) ∙ l.invariant.1

pub loop-end-preserved : goal.loop-end-preserved
loop-end-preserved c =
    let l = c.loop-end in
    let ends = c.args.ends.now in
    let same : eqb (get_or ends l.end-index 0) (l.start + c.args.sides) ≡ true = eq-eqb _ _ c.if-end-start.false in
    let next = equal_faces_next c.args.sides l.start ends l.end-index (omega arith) in
    (omega (arith, c.type_inv.ends l.end-index), rw same at (sym next) ∙ l.invariant.1)

pub returns : goal.returns
unfolding equal_faces
returns c = rw (drop_of_length-le c.args.ends.now {i = c.loop-end.end-index} (omega arith)) at c.loop-end.invariant.1
