use Rattle.std.proofs.Common.{refl, sym, ◌∙◌, arith}
use lib.Seq.{take_all}
use Rattle.keys.specs.Sorting.{sorted_by}
use Rattle.mesh.specs.steps.Axes.{place}
use Rattle.bvh.specs.steps.Extent.{is_upper, own_edge, first_zero}
use Rattle.bvh.specs.laws.ExtentLoops.{first_zero_more, found_item}
use Rattle.bvh.proofs.extent.Node.zero_edge.Goals as goal

pub loop-t-init : goal.loop-t-init
unfolding sorted_by first_zero
loop-t-init c = refl

pub loop-t-preserved : goal.loop-t-preserved
loop-t-preserved c =
    let a = c.args in
    rw (c.earlier-found.ensures, c.edge.ensures, c.own_box.ensures, c.loop-t.invariant, first_zero_more (own_edge a.self.mesh.now (is_upper a.end) (place a.axis)) a.self.items.now c.loop-t.t-index c.loop-t-test.true)

pub own_box-requires-in-Some : goal.own_box-requires-in-Some
own_box-requires-in-Some c =
    let a = c.args in
    let all = rw (take_all c.loop-t.t-index a.self.items.now (omega arith)) at c.loop-t.invariant in
    rw (sym all ∙ c.in-Some.is) at (found_item a.self.mesh.now (own_edge a.self.mesh.now (is_upper a.end) (place a.axis)) a.self.items.now a.self.given)
