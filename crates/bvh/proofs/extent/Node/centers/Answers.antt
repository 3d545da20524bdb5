use Rattle.std.proofs.Common.{sym, ◌∙◌, arith, drop_of_length-le}
use Rattle.mesh.specs.MeshBoxes.{triangle_center}
use Rattle.mesh.specs.Mesh.{own_box}
use Rattle.builder.specs.Builder.{center_of}
use Rattle.bvh.specs.steps.Extent.{with_centers}
use Rattle.bvh.specs.laws.ExtentLoops.{with_centers_next}
use Rattle.bvh.proofs.extent.Node.centers.Goals as goal

pub loop-t-preserved : goal.loop-t-preserved
unfolding center_of triangle_center own_box
loop-t-preserved c =
    let next = with_centers_next c.args.self.mesh.now c.loop-t.b c.args.self.items.now c.loop-t.t-index c.loop-t-test.true in
    rw (c.with_center-b.ensures, c.center.ensures, c.own_box.ensures) (sym next ∙ c.loop-t.invariant)

pub returns : goal.returns
unfolding with_centers
returns c = rw (drop_of_length-le c.args.self.items.now {i = c.loop-t.t-index} (omega arith)) at c.loop-t.invariant
