-- `surface_walk` meets its contract. The invariant: a triangle that the walk still comes to touches the point exactly if one of all that it comes to does.
use mathlib.Core.Path.{◌≡◌}
use Rattle.scan.specs.Scan.{some, surface_passes, touches}
use Rattle.walks.specs.Walks.{all_visits, reached}
use Rattle.walks.proofs.surface.surface_walk.Given as goal

abbrev pub invariant-loop-items : goal.invariant-loop-items
invariant-loop-items l =
    let test = touches l.mesh l.fn.touch.eps l.fn.touch.point in
    let leaves = l.items-iterator in
    (leaves.mesh ≡ l.mesh) × (some test leaves.coming ≡ some test (reached (all_visits l.fn.tree.tree (surface_passes l.fn.touch.eps l.fn.touch.point))))
