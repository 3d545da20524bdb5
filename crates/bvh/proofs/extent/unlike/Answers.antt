-- Written out, so that a wrong `unlike` is refused at once.
use Rattle.bvh.specs.steps.Extent.{unlike}
use Rattle.bvh.proofs.extent.unlike.Goals as goal

pub returns : goal.returns
unfolding unlike
returns c = rw (c.order_key.ensures, c.order_key-2.ensures)
