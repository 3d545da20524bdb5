-- `ray_walk` meets its contract. The invariant: the parity so far, with what is found in all that the walk still comes to, is that of all that it comes to.
use mathlib.Core.Path.{◌≡◌}
use Rattle.std.specs.Prelude.{Some}
use Rattle.scan.specs.declared.votes.Parity.TheVariants.{Even}
use Rattle.scan.specs.Scan.{ray_passes, found}
use Rattle.scan.specs.steps.VoteSteps.{cast_over}
use Rattle.walks.specs.Walks.{all_visits, reached}
use Rattle.walks.proofs.ray.ray_walk.Given as goal

abbrev pub invariant-loop-items : goal.invariant-loop-items
invariant-loop-items l =
    let find = found l.mesh l.fn.ray.origin l.fn.ray.direction in
    let passes = ray_passes l.fn.ray.origin l.fn.ray.direction in
    let leaves = l.items-iterator in
    (leaves.mesh ≡ l.mesh) × (cast_over find (Some l.parity) leaves.coming ≡ cast_over find (Some Even) (reached (all_visits l.fn.tree.tree passes)))
