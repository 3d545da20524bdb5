-- `Ray::parity_with` meets its contract. The invariant: the parity so far, with what is found at the triangles that are left of those that are kept, is that of all items.
use mathlib.Core.Path.{◌≡◌}
use lib.ListN.{drop}
use Rattle.std.specs.Prelude.{Some}
use Rattle.scan.specs.Scan.{found}
use Rattle.scan.specs.steps.VoteSteps.{cast_over}
use Rattle.walks.proofs.ray.Ray.parity_with.Given as goal

abbrev pub invariant-loop-t : goal.invariant-loop-t
invariant-loop-t l =
    let find = found l.mesh l.self.origin l.self.direction in
    cast_over find (Some l.parity) (drop l.t-index l.t-items) ≡ cast_over find (Some l.initial.parity) l.items
