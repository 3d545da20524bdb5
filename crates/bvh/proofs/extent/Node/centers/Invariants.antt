-- `Node::centers` meets its contract. The invariant: the box so far, with the centres of the items from the next on, is that of all.
use Rattle.std.proofs.Common.{◌≡◌, drop}
use Rattle.math.specs.BoundingBoxes.{empty}
use Rattle.bvh.specs.steps.Extent.{with_centers}
use Rattle.bvh.proofs.extent.Node.centers.Given as goal

abbrev pub invariant-loop-t : goal.invariant-loop-t
invariant-loop-t l = with_centers l.self.mesh.now l.b (drop l.t-index l.self.items.now) ≡ with_centers l.self.mesh.now empty l.self.items.now
