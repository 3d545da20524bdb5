-- `put_triangle` is safe: the corners of each triangle of an accepted mesh are vertices.
use Rattle.probes.proofs.meshes.put_triangle.Goals as goal

pub triangle_box-own_box-requires : goal.triangle_box-own_box-requires
triangle_box-own_box-requires c = rw (← c.mesh.view_is) at c.triangle-corners.ensures.corners

pub triangle_center-center-requires : goal.triangle_center-center-requires
triangle_center-center-requires c = rw (← c.mesh.view_is) at c.triangle-corners.ensures.corners
