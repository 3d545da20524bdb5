-- `Fitting::leaf` meets its contract: its tests are those of the definition, in its order.
use Prim.Native.Nat.{◌+◌, ◌-◌}
use native.Mathlib.Omega.{arith}
use mathlib.Core.Path.{◌≡◌}
use lib.ListN.{get_or, length-take, length-drop}
use borrow.Author.Tests.{le-leb, lt-leb, eq-eqb, ne_eqb}
use Rattle.std.proofs.Common.{get_or-take, get_or-drop}
use Rattle.tree.specs.Tree.{start_of, count_of}
use Rattle.tree.specs.steps.TreeTest.{leaf_walk}
use Rattle.tree.specs.laws.TreeTestLaws.{joined_items}
use Rattle.tree_check.proofs.Fitting.leaf.Goals as goal

pub returns-then-node-gt4 : goal.returns-then-node-gt4
unfolding leaf_walk start_of count_of
returns-then-node-gt4 c = rw (← c.self.view_is, ← c.tree.view_is, ← c.node_at-node.ensures.1, lt-leb _ _ c.if-node-gt4.true)

pub returns-then-node-i : goal.returns-then-node-i
unfolding leaf_walk start_of count_of
returns-then-node-i c = rw (← c.self.view_is, ← c.tree.view_is, ← c.node_at-node.ensures.0, ← c.node_at-node.ensures.1, le-leb _ _ c.if-node-gt4.false, ne_eqb _ _ c.if-node-i.true)

pub overflow_add-i : goal.overflow_add-i
overflow_add-i c = omega (arith, c.node_at-node.ensures.2, c.if-node-i.false, c.if-node-gt4.false)

pub returns-then-i-node : goal.returns-then-i-node
unfolding leaf_walk start_of count_of
returns-then-i-node c = rw (← c.self.view_is, ← c.tree.view_is, ← c.node_at-node.ensures.0, ← c.node_at-node.ensures.1, le-leb _ _ c.if-node-gt4.false, eq-eqb _ _ c.if-node-i.false, lt-leb _ _ c.if-i-node.true)

pub joined_boxes-requires-clause-items : goal.joined_boxes-requires-clause-items
joined_boxes-requires-clause-items c = λ j h.
    let items = c.tree.inside.items.now in
    let count = c.node_at-node.result.count in
    let within = simp (length-take, length-drop) at h in
    rw (get_or-take (c.args.i + count - c.args.i) (lib.ListN.drop c.args.i items) j 0 (omega (arith, within)), get_or-drop c.args.i items j 0)
    ((rw (← c.tree.view_is) at c.self.invariant.items) (c.args.i + j) (omega (arith, within, c.if-i-node.false)))

pub joined_boxes-requires-clause-some : goal.joined_boxes-requires-clause-some
unfolding count_of
joined_boxes-requires-clause-some c =
    let some = rw (← c.self.view_is, ← c.tree.view_is) at c.requires.leaf in
    simp (length-take, length-drop) (omega (arith, some, c.node_at-node.ensures.1, c.if-i-node.false))

pub returns : goal.returns
unfolding leaf_walk start_of count_of
returns c =
    let count = c.node_at-node.result.count in
    let some = rw (← c.self.view_is, ← c.tree.view_is, ← c.node_at-node.ensures.1) at c.requires.leaf in
    let fewer : c.args.i + count - c.args.i ≡ count = omega arith in
    let joined = rw (← c.tree.view_is) at (joined_items c.self.inside.mesh.now c.self.inside.tree.now c.args.i count some) in
    rw (
      ← c.self.view_is,
      ← c.tree.view_is,
      ← c.node_at-node.ensures.0,
      ← c.node_at-node.ensures.1,
      le-leb _ _ c.if-node-gt4.false,
      eq-eqb _ _ c.if-node-i.false,
      le-leb _ _ c.if-i-node.false,
      ← c.node_box.ensures,
      joined c.if-i-node.false,
      ← rw fewer at c.joined_boxes.ensures,
    )
    c.boxed.ensures
