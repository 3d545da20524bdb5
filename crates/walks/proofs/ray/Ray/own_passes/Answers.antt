-- `Ray::own_passes` meets its contract: the corners of a triangle of an accepted mesh are finite, so its own box is not empty.
use mathlib.Core.Path.{sym}
use Rattle.math.specs.laws.CornerLaws.{box_some}
use Rattle.mesh.specs.laws.MeshBoxLaws.{points_box}
use Rattle.mesh.specs.Mesh.{own_box}
use Rattle.scan.specs.Scan.{ray_passes}
use Rattle.walks.proofs.ray.Ray.own_passes.Goals as goal

pub ray_hits_box-requires : goal.ray_hits_box-requires
ray_hits_box-requires c = record { origin = c.self.invariant.finite; direction = c.self.invariant.factors; some = rw c.own_box-own.ensures (box_some _ c.corner_points.ensures.finite) }

pub returns : goal.returns
unfolding ray_passes own_box
returns c = rw (← c.self.view_is, sym c.self.invariant.inverse, ← points_box, ← c.corner_points.ensures.points, ← c.own_box-own.ensures) c.ray_hits_box.ensures
