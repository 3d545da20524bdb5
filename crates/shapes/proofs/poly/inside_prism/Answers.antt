-- Written out, so that a wrong `inside_prism` is refused at once.
use borrow.Author.Tests.{le-ltb}
use Rattle.shapes.specs.Planes.{inside_prism}
use Rattle.shapes.proofs.poly.inside_prism.Goals as goal

pub returns : goal.returns
unfolding inside_prism
returns c =
    let axis = le-ltb _ _ c.if-norm_dir-gt2.false in
    let within = c.if-not-in_range.false in
    rw (axis, ← c.component.ensures, ← c.in_range.ensures, within, ← c.plane_axes-axes.ensures, ← c.component-2.ensures, ← c.component-3.ensures) c.point_in_polygon.ensures
