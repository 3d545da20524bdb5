-- `equal_faces` meets its contract. The invariant: the faces from the next on are equal behind the start exactly when all are.
use Prim.Native.Nat.{◌<◌}
use mathlib.Core.Path.{◌≡◌}
use lib.ListN.{drop}
use Rattle.mesh.specs.steps.Fans.{equal_faces}
use Rattle.mesh.proofs.triangles.equal_faces.Given as goal

abbrev pub invariant-loop-end : goal.invariant-loop-end
invariant-loop-end l = (l.start < 4294967296) × (equal_faces l.sides l.start (drop l.end-index l.ends) ≡ equal_faces l.sides 0 l.ends)
