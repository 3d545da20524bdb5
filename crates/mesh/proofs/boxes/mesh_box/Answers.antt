-- Written out, so that a wrong `mesh_box` is refused at once.
use Rattle.mesh.specs.MeshBoxes.{mesh_box}
use Rattle.mesh.proofs.boxes.mesh_box.Goals as goal

pub returns : goal.returns
unfolding mesh_box
returns c = c.from_points.ensures
