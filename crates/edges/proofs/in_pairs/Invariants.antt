-- `in_pairs` meets its contract. The invariant: the keys that are left stand in pairs exactly if all do. A turn takes one pair off, or finds that there is none.
use Rattle.std.proofs.Common.{◌≡◌, length}
use Rattle.edges.specs.steps.Pairs.{in_pairs}
use Rattle.edges.proofs.in_pairs.Given as goal

abbrev pub invariant-loop-rest : goal.invariant-loop-rest
invariant-loop-rest l = in_pairs l.rest ≡ in_pairs l.keys

abbrev pub decreases-loop-rest : goal.decreases-loop-rest
decreases-loop-rest l = length l.rest
