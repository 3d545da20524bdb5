-- `search` meets its contract. The invariant: triangle t does not come before face lo, and it comes before face hi. The measure is the
-- distance of the two.
use Prim.Native.Nat.{◌+◌, ◌*◌, ◌≤◌, ◌<◌, ◌-◌}
use lib.ListN.{length}
use Rattle.mesh.specs.steps.Fans.{start_from}
use Rattle.mesh.proofs.triangles.search.Given as goal

abbrev pub invariant-loop-lo : goal.invariant-loop-lo
invariant-loop-lo l =
    (l.lo < l.hi) × (l.hi ≤ length l.ends) × (start_from 0 l.ends l.lo ≤ l.t + 2 * l.lo) × (l.t + 2 * l.hi < start_from 0 l.ends l.hi)

abbrev pub decreases-loop-lo : goal.decreases-loop-lo
decreases-loop-lo l = l.hi - l.lo
