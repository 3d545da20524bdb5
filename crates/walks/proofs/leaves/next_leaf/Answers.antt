use native.Mathlib.Omega.{arith}
use mathlib.Core.Path.{sym}
use Rattle.tree.specs.Tree.{Tree, tree, start_of, count_of}
use Rattle.walks.specs.steps.Leaves.{Ready}
use Rattle.walks.specs.laws.StackLaws as StackLaws
use Rattle.walks.proofs.leaves.next_leaf.Goals.{Else-node-gt0}
use Rattle.walks.proofs.leaves.next_leaf.Given.{Over}
use Rattle.walks.proofs.leaves.next_leaf.Goals as goal

-- what is known at an inner node
module _ (g : Over) (c : Else-node-gt0 g) where
  abbrev t : Tree
  t = tree c.tree.inside.boxes.now c.tree.inside.nodes.now c.tree.inside.items.now

  inner : StackLaws.Inner c.tree.inside.mesh t (g.P.NodeTest.passes c.args.test.now) c.loop-at.stack c.loop-at.at.node c.loop-at.at.height
  unfolding count_of
  inner =
      let here = rw (← c.tree.view_is) at (StackLaws.here c.loop-at.invariant.walking (omega arith)) in
      here.inner (omega (arith, c.node_at-node.ensures.1, c.if-node-gt0.false))

  ready : Ready c.tree.inside.mesh t
  ready = record { accepted = c.tree.invariant.0; rules = c.tree.invariant.1 }

pub loop-at-init : goal.loop-at-init
loop-at-init g c = StackLaws.onward_none c.requires

pub node_at-node-requires : goal.node_at-node-requires
node_at-node-requires g c =
    let here = rw (← c.tree.view_is) at (StackLaws.here c.loop-at.invariant.walking (omega arith)) in
    omega (arith, here.there, c.tree.invariant.1.nodes)

pub returns-then-node-gt0 : goal.returns-then-node-gt0
unfolding count_of
returns-then-node-gt0 g c = record { onward = c.loop-at.invariant; leaf = λ h. rw (← c.tree.view_is) (omega (arith, c.node_at-node.ensures.1, c.if-node-gt0.true)) }

pub overflow_add-left : goal.overflow_add-left
overflow_add-left g c =
    let room = (inner g (goal.at.overflow_add-left g c).Else-node-gt0).room in
    omega (arith, room.1, room.2, c.tree.invariant.1.nodes)

pub passes-enters-requires-clause-there : goal.passes-enters-requires-clause-there
passes-enters-requires-clause-there g c =
    let room = (inner g (goal.at.passes-enters-requires-clause-there g c).Else-node-gt0).room in
    omega (arith, room.1, room.2, c.tree.invariant.1.boxes)

pub passes-enters-requires-clause-some : goal.passes-enters-requires-clause-some
passes-enters-requires-clause-some g c =
    let at = (goal.at.passes-enters-requires-clause-some g c).Else-node-gt0 in
    ((inner g at).boxes (ready g at)).0

pub passes-follows-requires-clause-there : goal.passes-follows-requires-clause-there
unfolding start_of
passes-follows-requires-clause-there g c =
    let room = (inner g (goal.at.passes-follows-requires-clause-there g c).Else-node-gt0).room in
    rw c.node_at-node.ensures.0 (omega (arith, room.2, c.tree.invariant.1.boxes))

pub passes-follows-requires-clause-some : goal.passes-follows-requires-clause-some
unfolding start_of
passes-follows-requires-clause-some g c =
    let at = (goal.at.passes-follows-requires-clause-some g c).Else-node-gt0 in
    rw c.node_at-node.ensures.0 ((inner g at).boxes (ready g at)).1

pub advance-at-requires : goal.advance-at-requires
advance-at-requires g c = (omega arith, (inner g (goal.at.advance-at-requires g c).Else-node-gt0).room.0)

pub loop-at-smaller : goal.loop-at-smaller
unfolding start_of
loop-at-smaller g c =
    let here = rw (← c.tree.view_is) at (StackLaws.here c.loop-at.invariant.walking (omega arith)) in
    let step = (inner g (goal.at.loop-at-smaller g c).Else-node-gt0).step _ _ (sym c.passes-enters.ensures) (rw c.node_at-node.ensures.0 at (sym c.passes-follows.ensures)) in
    rw (c.advance-at.ensures.0, c.node_at-node.ensures.0, ← c.tree.view_is) (omega (arith, step.1, here.there))

pub loop-at-preserved : goal.loop-at-preserved
unfolding start_of
loop-at-preserved g c =
    let step = (inner g (goal.at.loop-at-preserved g c).Else-node-gt0).step _ _ (sym c.passes-enters.ensures) (rw c.node_at-node.ensures.0 at (sym c.passes-follows.ensures)) in
    rw (c.advance-at.ensures.0, c.advance-at.ensures.1, c.node_at-node.ensures.0, ← c.tree.view_is)
    (StackLaws.onward_more (rw (← c.tree.view_is) at c.loop-at.invariant) step.0)

pub returns : goal.returns
returns g c = record { onward = c.loop-at.invariant; leaf = λ h. absurd (omega arith) }
