-- `build_leaf` meets its contract: the calls promise its parts, and sorting keeps the items.
use Rattle.std.proofs.Common.{refl, ap, ◌∙◌, arith}
use Rattle.keys.specs.Sorting.{sorted}
use Rattle.keys.specs.laws.SortingTheorems.{length_sorted, sorted_permutation}
use Rattle.bvh.specs.laws.NodeLaws.{items_permuted}
use Rattle.builder.specs.Builder.{node_box}
use Rattle.bvh.specs.laws.SubtreeLaws.{room_one, leaf_writes}
use Rattle.bvh.proofs.subtree.build_leaf.Goals as goal

pub joined_boxes-bounds-requires : goal.joined_boxes-bounds-requires
joined_boxes-bounds-requires c =
    let items = c.args.items.now in
    let room = c.requires.0 in
    rw c.sort_items.ensures (record { items = items_permuted c.args.mesh.now items room.given (sorted items) (sorted_permutation items); some = rw (length_sorted items) room.some })

pub put_box-requires : goal.put_box-requires
put_box-requires c = (room_one c.requires.0).0

pub put_node-requires : goal.put_node-requires
put_node-requires c =
    let room = c.requires.0 in
    ((room_one room).1, omega (arith, room.few_items, room.some), omega (arith, c.sort_items.auto.items, c.requires.1))

pub returns : goal.returns
returns c =
    let a = c.args in
    let items = c.sort_items.ensures in
    let bounds = c.joined_boxes-bounds.ensures ∙ ap (node_box a.mesh.now) items in
    rw (c.put_box.ensures, c.put_node.ensures, c.sort_items.auto.items, items) (leaf_writes a.mesh.now a.boxes.now a.nodes.now a.items.now a.n a.i _ c.requires.1 refl bounds)
