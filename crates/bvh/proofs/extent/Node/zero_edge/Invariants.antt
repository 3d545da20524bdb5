-- `Node::zero_edge` meets its contract. The invariant: what was found is the first zero of the items before the next one, sorted; one item more is
-- inserted there.
use Rattle.std.proofs.Common.{◌≡◌, take}
use Rattle.keys.specs.Sorting.{sorted}
use Rattle.mesh.specs.steps.Axes.{place}
use Rattle.bvh.specs.steps.Extent.{is_upper, own_edge, first_zero}
use Rattle.bvh.proofs.extent.Node.zero_edge.Given as goal

abbrev pub invariant-loop-t : goal.invariant-loop-t
invariant-loop-t l = l.found ≡ first_zero (own_edge l.self.mesh.now (is_upper l.end) (place l.axis)) (sorted (take l.t-index l.self.items.now))
