use Prim.Native.Nat.{◌+◌, ◌-◌}
use native.Mathlib.Omega.{arith}
use mathlib.Core.Path.{sym, ◌∙◌}
use lib.ListN.{length, take, drop, length-drop, drop_of_length-le}
use Rattle.std.proofs.Common.{get_or-drop}
use Rattle.mesh.specs.laws.ItemLaws.{behind}
use Rattle.mesh.specs.Mesh.{join_all}
use Rattle.mesh.specs.laws.MeshLaws.{node_box_first, join_all_next}
use Rattle.mesh.proofs.AcceptedMesh.joined_boxes.Goals as goal

pub loop-t-init : goal.loop-t-init
loop-t-init c = rw (behind c.args.items.now 1, c.own_box-b.ensures) (sym (node_box_first c.args.self.now c.args.items.now c.requires.some))

pub own_box-requires : goal.own_box-requires
own_box-requires c =
    let items = c.args.items.now in
    let i = c.loop-t.t-index in
    let within = rw (behind items 1, length-drop 1 items) at c.loop-t-test.true in
    rw (behind items 1, get_or-drop 1 items i 0) (c.requires.items (1 + i) (omega (arith, within)))

pub loop-t-preserved : goal.loop-t-preserved
loop-t-preserved c =
    let l = c.loop-t in
    let next = join_all_next c.args.self.now l.b (take (length c.args.items.now - 1) (drop 1 c.args.items.now)) l.t-index c.loop-t-test.true in
    rw (c.join-b.ensures, c.own_box.ensures) (sym next ∙ l.invariant)

pub returns : goal.returns
unfolding join_all
returns c = rw (drop_of_length-le (take (length c.args.items.now - 1) (drop 1 c.args.items.now)) {i = c.loop-t.t-index} c.loop-t-test.false) at c.loop-t.invariant
