-- `Node::inner_box` meets its contract: the calls promise the edges of the joined box, and the coordinates are lent as numbers of the format f64.
use Rattle.bvh.specs.steps.Extent.{joined_box}
use Rattle.bvh.specs.laws.ExtentLaws.{joined_halves}
use Rattle.bvh.proofs.extent.Node.inner_box.Goals as goal

pub returns : goal.returns
unfolding joined_box
returns c =
    let law = joined_halves c.args.self.mesh.now (rw (← c.mesh.view_is) c.floats.ensures) c.args.self.items.now c.args.half in
    rw
    (c.joined_end.ensures, c.joined_end-2.ensures)
    (rw (← c.requires.2, ← c.requires.3) at law)
