-- Written out, so that a wrong `Point2FromArrayF642::from` is refused at once.
use Rattle.std.proofs.Common.{refl}
use Rattle.geom.specs.Polygons.{vertex}
use Rattle.geom.proofs.Point2FromArrayF642.from.Goals as goal

pub returns : goal.returns
unfolding vertex
returns c = refl
