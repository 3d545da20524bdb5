use mathlib.Core.Path.{sym, ap, ◌∙◌}
use Rattle.scan.specs.steps.VoteSteps.{cast_over}
use Rattle.scan.specs.laws.ScanLaws.{cast_over_append, cast_over_none, vote_over_cast}
use Rattle.walks.specs.Walks.{walk_vote, ray_walk}
use Rattle.walks.specs.laws.WalkLaws.{vote_up_to}
use Rattle.walks.proofs.ray.ray_walk.Goals as goal

pub loop-items-init : goal.loop-items-init
loop-items-init c =
    let begins = c.into_iter-items-iterator.ensures.into_iter_gives in
    rw begins (rw (← c.tree.view_is) at c.new-items-items.ensures.mesh, ap (cast_over _ _) c.new-items-items.ensures.coming)

pub parity_with-requires-clause-items : goal.parity_with-requires-clause-items
parity_with-requires-clause-items c = rw (← c.loop-items.invariant.0) c.in-Some.ensures.steps.triangles

pub returns-in_err-parity : goal.returns-in_err-parity
unfolding walk_vote ray_walk
returns-in_err-parity c =
    let none = rw (c.in-Some.ensures.steps.leaf, cast_over_append, sym c.in_err-parity.ensures, cast_over_none) at c.loop-items.invariant.1 in
    rw (c.from_residual.ensures, ← c.tree.view_is) (sym (vote_up_to _ _ ∙ vote_over_cast _ _ ∙ sym (rw (← c.tree.view_is) at none)))

pub loop-items-preserved : goal.loop-items-preserved
loop-items-preserved c =
    let steps = c.in-Some.ensures.steps in
    (steps.mesh ∙ c.loop-items.invariant.0, rw (c.in_ok-parity.ensures) (rw (steps.leaf, cast_over_append) at c.loop-items.invariant.1))

pub returns : goal.returns
unfolding walk_vote ray_walk cast_over
returns c =
    let none = rw c.in-None.ensures.steps.end at c.loop-items.invariant.1 in
    rw (← c.tree.view_is) (sym (vote_up_to _ _ ∙ vote_over_cast _ _ ∙ sym (rw (← c.tree.view_is) at none)))
