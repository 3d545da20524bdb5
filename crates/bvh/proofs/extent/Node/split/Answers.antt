-- `Node::split` meets its contract: the axis on which the box around the centres is widest is that of the node, whatever the items' order.
use Rattle.bvh.specs.laws.ExtentLaws.{centers_axis}
use Rattle.bvh.proofs.extent.Node.split.Goals as goal

pub returns : goal.returns
returns c = rw (c.widest_axis-axis.ensures, c.size.ensures, c.centers-centers.ensures) (centers_axis c.args.self.mesh.now c.args.self.items.now)
