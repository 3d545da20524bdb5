-- Written out, so that a wrong `triangles::fan_triangle` is refused at once.
use Rattle.std.proofs.Common.{refl}
use Rattle.mesh.proofs.triangles.fan_triangle.Goals as goal

pub returns : goal.returns
returns c = refl
