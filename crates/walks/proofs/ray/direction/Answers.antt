-- `direction` meets its contract: the rows of the table are the directions.
use mathlib.Core.Path.{sym, ◌∙◌}
use mathlib.Core.List.{[], map}
use lib.ListN.{get_or-map}
use Rattle.math.specs.Vectors.{at}
use Rattle.scan.specs.Scan.{directions}
use Rattle.walks.specs.steps.Casts.{row, direction}
use Rattle.walks.proofs.ray.direction.Goals as goal

pub returns : goal.returns
unfolding direction directions at
returns c = c.from.ensures ∙ sym (get_or-map (λ r. at r 0) (map row directions) c.args.k [])
