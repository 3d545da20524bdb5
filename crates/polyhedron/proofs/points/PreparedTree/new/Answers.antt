-- `PreparedTree::new` meets its contract: the corners of an accepted mesh are below 65,536.
use Rattle.edges.specs.laws.EdgeLaws.{accepted_below}
use Rattle.polyhedron.proofs.points.PreparedTree.new.Goals as goal

pub keys_closed-closed-requires : goal.keys_closed-closed-requires
keys_closed-closed-requires c =
    let m = c.mesh.invariant.0 in
    (m.lengths.fit, accepted_below m, rw (← c.tree.view_is, ← c.mesh.view_is) at c.requires)

pub invariant_of-result : goal.invariant_of-result
invariant_of-result c =
    rw
    (← c.tree.view_is)
    (record {
      ready = record { accepted = c.tree.invariant.0; rules = c.tree.invariant.1 };
      prepared = rw (← c.mesh.view_is) (rw c.keys_closed-closed.ensures.0 at c.prepare.ensures);
    })
