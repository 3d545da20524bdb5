-- Written out, so that a wrong `boxes::surface_eps` is refused at once.
use Rattle.mesh.specs.MeshBoxes.{surface_eps}
use Rattle.mesh.proofs.boxes.surface_eps.Goals as goal

pub returns : goal.returns
unfolding surface_eps
returns c = rw (c.tol_of.ensures, c.max-2.ensures, c.norm-2.ensures, c.max.ensures, c.norm.ensures, c.norm-size.ensures, c.size.ensures)
