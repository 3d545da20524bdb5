-- `Ray::keep_passing` meets its contract. The invariant: those of the items so far whose own boxes pass are kept.
use mathlib.Core.Path.{◌≡◌}
use lib.ListN.{length}
use Rattle.walks.specs.steps.Kept.{Kept}
use Rattle.walks.proofs.ray.Ray.keep_passing.Given as goal

abbrev pub invariant-loop-t : goal.invariant-loop-t
invariant-loop-t l = (length l.kept ≡ 4) × Kept l.mesh l.self.origin l.self.direction l.items 0 l.t-index l.kept l.n
