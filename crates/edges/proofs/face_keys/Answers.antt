use Rattle.std.proofs.Common.{◌≡◌, ◌+◌, get_or, sym, ◌∙◌, take_all, arith, le_refl}
use Rattle.lent.specs.laws.OverLaws.{over_nothing}
use Rattle.edges.specs.Edges.{face_keys}
use Rattle.edges.specs.laws.EdgeLaws.{length_face_keys}
use Rattle.edges.proofs.Filling.{key_stored}
use Rattle.edges.proofs.face_keys.Goals as goal

pub loop-i-init : goal.loop-i-init
loop-i-init c = sym (over_nothing _)

pub loop-i-preserved : goal.loop-i-preserved
loop-i-preserved c =
    let face = c.args.face.now in
    let at = c.loop-i in
    let next : c.unwrap_or-next.result ≡ get_or face (at.i + 1) (get_or face 0 0) =
    c.unwrap_or-next.ensures ∙ rw c.copied.ensures (c.get.ensures.lookup.4 (le_refl _) (get_or face 0 0)) in
    rw at.invariant (key_stored face c.args.work.now at.i _ _ c.loop-i-test.true (omega arith) next c.edge_key.ensures)

pub returns : goal.returns
returns c =
    let face = c.args.face.now in
    let all = take_all c.loop-i.i (face_keys face) (omega (arith, length_face_keys face)) in
    c.loop-i.invariant ∙ rw all
