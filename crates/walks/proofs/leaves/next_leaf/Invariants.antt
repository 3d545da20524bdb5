-- `next_leaf` meets its contract. The invariant: the walk has gone on from where the search began, and still comes to the same. The measure is the nodes from its place on.
use Prim.Native.Nat.{◌-◌}
use Rattle.tree.specs.Tree.{node_count}
use Rattle.walks.specs.steps.Stacks.{Onward}
use Rattle.walks.proofs.leaves.next_leaf.Given as goal

abbrev pub invariant-loop-at : goal.invariant-loop-at
invariant-loop-at g l = Onward l.tree.mesh l.tree.tree (g.P.NodeTest.passes l.test) l.initial.stack l.initial.at l.stack l.at

abbrev pub decreases-loop-at : goal.decreases-loop-at
decreases-loop-at g l = node_count l.tree.tree - l.at.node
