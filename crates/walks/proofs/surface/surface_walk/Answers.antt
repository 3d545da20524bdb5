use mathlib.Core.Path.{sym, ap, ◌∙◌}
use Rattle.scan.specs.Scan.{some}
use Rattle.scan.specs.laws.ScanLaws.{some_nothing, some_append}
use Rattle.walks.specs.Walks.{walk_touches, surface_walk}
use Rattle.walks.specs.laws.WalkLaws.{some_up_to}
use Rattle.walks.proofs.surface.surface_walk.Goals as goal

pub loop-items-init : goal.loop-items-init
loop-items-init c =
    let begins = c.into_iter-items-iterator.ensures.into_iter_gives in
    rw begins (rw (← c.tree.view_is) at c.new-items-items.ensures.mesh, ap (some _) c.new-items-items.ensures.coming)

pub touches_some-requires : goal.touches_some-requires
touches_some-requires c = rw (← c.loop-items.invariant.0) c.in-Some.ensures.steps.triangles

pub returns-then-touches_some : goal.returns-then-touches_some
unfolding walk_touches surface_walk
returns-then-touches_some c =
    let found = rw (c.in-Some.ensures.steps.leaf, some_append, sym c.touches_some.ensures, c.if-touches_some.true) at c.loop-items.invariant.1 in
    rw (← c.tree.view_is) (sym (some_up_to _ _ ∙ sym (rw (← c.tree.view_is) at found)))

pub loop-items-preserved : goal.loop-items-preserved
loop-items-preserved c =
    let steps = c.in-Some.ensures.steps in
    (steps.mesh ∙ c.loop-items.invariant.0, rw (steps.leaf, some_append, sym c.touches_some.ensures, c.if-touches_some.false) at c.loop-items.invariant.1)

pub returns : goal.returns
unfolding walk_touches surface_walk
returns c =
    let none = rw (c.in-None.ensures.steps.end, some_nothing) at c.loop-items.invariant.1 in
    rw (← c.tree.view_is) (sym (some_up_to _ _ ∙ sym (rw (← c.tree.view_is) at none)))
