-- `AcceptedMesh::joined_boxes` meets its contract. The invariant: the join so far, with the own boxes of the items that are left, is that of all.
use mathlib.Core.Path.{◌≡◌}
use lib.ListN.{drop}
use Rattle.mesh.specs.Mesh.{join_all, node_box}
use Rattle.mesh.proofs.AcceptedMesh.joined_boxes.Given as goal

abbrev pub invariant-loop-t : goal.invariant-loop-t
invariant-loop-t l = join_all l.self l.b (drop l.t-index l.t-items) ≡ node_box l.self l.items
