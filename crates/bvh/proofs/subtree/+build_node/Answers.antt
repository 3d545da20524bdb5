-- `build_node` meets its contract: a leaf is written, or the halves are, one after the other, and then the node. The number of items falls.
use Rattle.std.proofs.Common.{ℕ, ◌+◌, ◌/◌, length, take, drop, refl, arith}
use Rattle.mesh.specs.steps.Axes.{place}
use Rattle.bvh.specs.steps.Subtree.{Writes}
use Rattle.bvh.specs.laws.SubtreeLaws.{Halved, room_one, left_room, right_room, written_items, first_bounds, second_bounds, halves_places, small_node, inner_writes}
use Rattle.bvh.proofs.subtree.+build_node.Goals as goal
use Rattle.bvh.proofs.subtree.+build_node.Goals.{After-halve, After-build_node-left, After-build_node-right}

-- the items after the median split
halved : (t : ℕ) (c : After-halve t) → Halved c.args.mesh.now (place c.split-split.result.axis) (length c.args.boxes.now) (length c.args.nodes.now) c.args.items.now c.halve.new.items c.args.n c.args.i
halved t c = record { room = c.requires; many = c.if-items-le4.false; axis_is = c.split-split.ensures; split = c.halve.ensures.halves; small = c.halve.ensures.small }

-- what is written of the left half, and of the right half
left : (t : ℕ) (c : After-build_node-left t)
    → Writes c.args.mesh.now c.args.boxes.now c.args.nodes.now (take (length c.args.items.now / 2) c.halve.new.items) (c.args.n + 1) c.args.i
    c.build_node-left.result c.build_node-left.new.boxes c.build_node-left.new.nodes c.build_node-left.new.items
left t c = rw c.split_at_mut-front.ensures.front at c.build_node-left.ensures

right : (t : ℕ) (c : After-build_node-right t)
    → Writes c.args.mesh.now c.build_node-left.new.boxes c.build_node-left.new.nodes (drop (length c.args.items.now / 2) c.halve.new.items)
    c.build_node-left.result.end (c.args.i + length c.args.items.now / 2)
    c.build_node-right.result c.build_node-right.new.boxes c.build_node-right.new.nodes c.build_node-right.new.items
right t c = rw c.split_at_mut-front.ensures.back at c.build_node-right.ensures

pub build_node-left-requires : goal.build_node-left-requires
build_node-left-requires t c =
    let room = left_room (halved t (goal.at.build_node-left-requires t c).After-halve) in
    (omega (arith, c.decreases, c.split_at_mut-front.ensures.front_len), rw c.split_at_mut-front.ensures.front room)

pub build_node-right-requires : goal.build_node-right-requires
build_node-right-requires t c =
    let at = goal.at.build_node-right-requires t c in
    let wrote = left t at.After-build_node-left in
    let room = right_room (halved t at.After-halve) c.build_node-left.result.end wrote.end in
    (omega (arith, c.decreases, c.split_at_mut-front.ensures.back_len, c.halve.auto.items), rw (c.split_at_mut-front.ensures.back, c.build_node-left.auto.boxes, c.build_node-left.auto.nodes) room)

pub invariant_of-inner_box : goal.invariant_of-inner_box
invariant_of-inner_box t c =
    let at = goal.at.invariant_of-inner_box t c in
    record { given = written_items (halved t at.After-halve) (left t at.After-build_node-left) (right t at.After-build_node-right) }

pub inner_box-bounds-requires : goal.inner_box-bounds-requires
inner_box-bounds-requires t c =
    let at = goal.at.inner_box-bounds-requires t c in
    let h = halved t at.After-halve in
    let wrote = left t at.After-build_node-left in
    let writes = right t at.After-build_node-right in
    ((halves_places h wrote writes).0, (halves_places h wrote writes).1, first_bounds h wrote writes, second_bounds h wrote writes)

pub put_box-requires : goal.put_box-requires
put_box-requires t c = omega (arith, (room_one c.requires).0, c.build_node-right.auto.boxes, c.build_node-left.auto.boxes)

pub put_node-requires : goal.put_node-requires
put_node-requires t c =
    let at = goal.at.put_node-requires t c in
    (omega (arith, (room_one c.requires).1, c.build_node-right.auto.nodes, c.build_node-left.auto.nodes), small_node (halved t at.After-halve) (left t at.After-build_node-left) (right t at.After-build_node-right), omega arith)

pub returns : goal.returns
returns t c =
    let at = goal.at.returns t c in
    rw (c.put_box.ensures, c.put_node.ensures) (inner_writes (halved t at.After-halve) (left t at.After-build_node-left) (right t at.After-build_node-right) _ c.inner_box-bounds.ensures refl)
