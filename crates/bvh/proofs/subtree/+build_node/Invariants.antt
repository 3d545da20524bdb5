-- The number of items falls with each call.
use lib.ListN.{length}
use Rattle.bvh.proofs.subtree.+build_node.Given as goal

abbrev pub decreases-build_node : goal.decreases-build_node
decreases-build_node l = length l.items.now
