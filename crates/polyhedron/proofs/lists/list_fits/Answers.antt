-- Written out, so that a wrong `lists::list_fits` is refused at once.
use Rattle.std.proofs.Common.{refl}
use Rattle.polyhedron.specs.PointLists.{list_fits}
use Rattle.polyhedron.proofs.lists.list_fits.Goals as goal

pub returns : goal.returns
unfolding list_fits
returns c = refl
