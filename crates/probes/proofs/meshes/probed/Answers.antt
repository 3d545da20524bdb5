-- `probed` is safe: an accepted mesh has the facts by which its triangles and edges are found.
use native.Mathlib.Omega.{arith}
use Rattle.edges.specs.laws.EdgeLaws.{accepted_below}
use Rattle.probes.proofs.meshes.probed.Goals as goal

pub keys_closed-requires : goal.keys_closed-requires
keys_closed-requires c = (c.mesh.invariant.0.lengths.fit, accepted_below c.mesh.invariant.0, omega arith)
