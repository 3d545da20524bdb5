-- Written out, so that a wrong `extent::widest_axis` is refused at once.
use Rattle.std.proofs.lemmas.Bool.{lt-leb}
use Rattle.math.specs.Vectors.{component}
use Rattle.bvh.specs.steps.Extent.{widest_axis, wider_axis}
use Rattle.bvh.proofs.extent.widest_axis.Goals as goal

pub returns-else-x-z : goal.returns-else-x-z
unfolding widest_axis wider_axis component
returns-else-x-z c =
    rw (← c.order_key-x.ensures, ← c.order_key-y.ensures, lt-leb _ _ c.if-x-y.false, ← c.order_key-x.ensures, ← c.order_key-z.ensures, lt-leb _ _ c.if-x-z.false)
