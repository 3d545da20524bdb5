-- `next` of `Leaves` meets its contract: at a leaf, its items are what the walk comes to next.
use Prim.Native.Nat.{◌+◌, ◌-◌, ◌≤◌}
use native.Mathlib.Omega.{arith}
use mathlib.Core.Path.{◌≡◌, refl, sym, ap, ◌∙◌}
use lib.ListN.{length}
use Rattle.tree.specs.Tree.{tree, start_of, count_of}
use Rattle.walks.specs.steps.Leaves.{Walk, Ready}
use Rattle.walks.specs.laws.WalkLaws.{progress}
use Rattle.walks.specs.laws.StackLaws as StackLaws
use Rattle.walks.specs.steps.Stacks.{pending_from}
use Rattle.walks.proofs.leaves.LeavesIterator.next.Goals.{After-node_at-leaf}
use Rattle.walks.proofs.leaves.LeavesIterator.next.Given.{Over}
use Rattle.walks.proofs.leaves.LeavesIterator.next.Goals as goal

-- what is known at a leaf
module _ (g : Over) (c : After-node_at-leaf g) where
  ready : Ready c.tree.inside.mesh (tree c.tree.inside.boxes.now c.tree.inside.nodes.now c.tree.inside.items.now)
  ready = record { accepted = c.tree.invariant.0; rules = c.tree.invariant.1 }

  -- its items are in the list
  within : c.node_at-leaf.result.start + c.node_at-leaf.result.count ≤ length c.tree.inside.items.now
  unfolding start_of count_of
  within = omega (arith, c.node_at-leaf.ensures, StackLaws.leaf_within ready (rw (← c.tree.view_is) at c.next_leaf-at.ensures) (omega arith))

pub node_at-leaf-requires : goal.node_at-leaf-requires
node_at-leaf-requires g c =
    let here = rw (← c.tree.view_is) at (StackLaws.here c.next_leaf-at.ensures.onward.walking (omega arith)) in
    omega (arith, here.there, c.tree.invariant.1.nodes)

pub returns-then-at-eq0-clause-steps : goal.returns-then-at-eq0-clause-steps
unfolding pending_from
returns-then-at-eq0-clause-steps g c =
    let coming = ap (λ (w : Walk). w.coming) c.self.view_is in
    let none = rw c.if-at-eq0.true at (sym c.next_leaf-at.ensures.onward.same) in
    record { mesh = ap (λ (w : Walk). w.mesh) c.self.view_is; leaf = tt; triangles = tt; places = tt; end = sym coming ∙ none }

pub popped-self-inside-requires : goal.popped-self-inside-requires
popped-self-inside-requires g c = (omega arith, (StackLaws.here c.next_leaf-at.ensures.onward.walking (omega arith)).low)

pub overflow_add-result : goal.overflow_add-result
overflow_add-result g c = omega (arith, within g (goal.at.overflow_add-result g c).After-node_at-leaf)

pub slice_bounds-result-end : goal.slice_bounds-result-end
slice_bounds-result-end g c = within g (goal.at.slice_bounds-result-end g c).After-node_at-leaf

pub invariant_of-self-2 : goal.invariant_of-self-2
invariant_of-self-2 g c = rw c.popped-self-inside.ensures (StackLaws.here c.next_leaf-at.ensures.onward.walking (omega arith)).after

pub returns-clause-steps : goal.returns-clause-steps
unfolding start_of count_of
returns-clause-steps g c =
    let start = c.node_at-leaf.result.start in
    let count = c.node_at-leaf.result.count in
    let fewer : start + count - start ≡ count = omega arith in
    let leaf = (goal.at.returns-clause-steps g c).After-node_at-leaf in
    let found = rw c.node_at-leaf.ensures.0 at (StackLaws.leaf_found (ready g leaf) (rw (← c.tree.view_is) at c.next_leaf-at.ensures) (omega arith) (start + count - start) (fewer ∙ c.node_at-leaf.ensures.1)) in
    rw
    (← c.self.view_is, ← c.tree.view_is, c.popped-self-inside.ensures)
    (record { mesh = refl; leaf = rw c.node_at-leaf.ensures.0 found.coming; triangles = rw c.node_at-leaf.ensures.0 found.triangles; places = rw c.node_at-leaf.ensures.0 (found.some, found.few); end = tt })

pub returns-clause-goes : goal.returns-clause-goes
returns-clause-goes g c = progress _ _ _ (returns-clause-steps g c)
