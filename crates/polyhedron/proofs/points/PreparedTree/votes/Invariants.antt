-- `PreparedTree::votes` meets its contract. The invariant: the votes so far, with those of the directions that are left, are the votes on the point.
use Prim.Native.Nat.{◌+◌, ◌≤◌}
use mathlib.Core.Path.{◌≡◌}
use lib.ListN.{drop}
use Rattle.scan.specs.Scan as Scan
use Rattle.scan.specs.Scan.{vote, directions, votes_from}
use Rattle.polyhedron.proofs.points.PreparedTree.votes.Given as goal

abbrev pub invariant-loop-heading : goal.invariant-loop-heading
invariant-loop-heading l = (l.votes.odd + l.votes.even ≤ l.heading-index) × (votes_from (vote l.self l.p) l.votes (drop l.heading-index directions) ≡ Scan.votes l.self l.p)
