-- `Fitting::walk` meets its contract: its tests are those of the definition, in its order.
use Prim.Native.Nat.{ℕ, ◌-◌, ◌<◌}
use native.Mathlib.Nat.{pos_of_ne-zero}
use native.Mathlib.Omega.{arith}
use mathlib.Core.Path.{◌≡◌, sym, ◌∙◌}
use Rattle.std.specs.Prelude.{Some, None}
use Rattle.tree.specs.Tree.{node_count, start_of, count_of}
use Rattle.tree.specs.steps.TreeTest.{walk, boxed_by, with_left}
use Rattle.tree.specs.laws.TreeTestLaws.{walk_out, walk_leaf, left_faults, left_ends_elsewhere, right_follows}
use Rattle.tree_check.proofs.Fitting.+walk.Goals.{Else-node-gt0}
use Rattle.tree_check.proofs.Fitting.+walk.Goals as goal

-- what is known at an inner node
module _ (t : ℕ) (c : Else-node-gt0 t) where
  deep : 0 < c.args.depth
  deep = pos_of_ne-zero c.if-depth-eq0.false

  within : c.args.n < node_count c.args.self.now.tree
  unfolding node_count
  within = rw (← c.self.view_is, ← c.tree.view_is, ← c.node_count.ensures) c.if-n-node_count.false

  none : count_of c.args.self.now.tree c.args.n ≡ 0
  unfolding count_of
  none = rw (← c.self.view_is, ← c.tree.view_is, ← c.node_at-node.ensures.1) (omega (arith, c.if-node-gt0.false))

  start : c.node_at-node.result.start ≡ start_of c.args.self.now.tree c.args.n
  unfolding start_of
  start = rw (← c.self.view_is, ← c.tree.view_is) c.node_at-node.ensures.0

pub returns-then-depth-eq0 : goal.returns-then-depth-eq0
unfolding walk
returns-then-depth-eq0 t c = rw c.if-depth-eq0.true

pub returns-then-n-node_count : goal.returns-then-n-node_count
unfolding node_count
returns-then-n-node_count t c =
    let a = c.args in
    let out = rw (← c.self.view_is, ← c.tree.view_is) at (walk_out a.self.now.mesh a.self.now.tree a.depth a.n a.i) in
    rw (← c.self.view_is, ← c.tree.view_is) (sym (out (rw c.node_count.ensures at c.if-n-node_count.true)))

pub leaf-requires-clause-leaf : goal.leaf-requires-clause-leaf
unfolding count_of
leaf-requires-clause-leaf t c = rw (← c.self.view_is, ← c.tree.view_is, ← c.node_at-node.ensures.1) c.if-node-gt0.true

pub returns-then-node-gt0 : goal.returns-then-node-gt0
unfolding node_count count_of
returns-then-node-gt0 t c =
    let a = c.args in
    let there : a.n < node_count a.self.now.tree = rw (← c.self.view_is, ← c.tree.view_is, ← c.node_count.ensures) c.if-n-node_count.false in
    let some : 0 < count_of a.self.now.tree a.n = rw (← c.self.view_is, ← c.tree.view_is, ← c.node_at-node.ensures.1) c.if-node-gt0.true in
    c.leaf.ensures ∙ sym (walk_leaf a.self.now.mesh a.self.now.tree a.depth a.n a.i (pos_of_ne-zero c.if-depth-eq0.false) there some)

pub returns-in_err-left : goal.returns-in_err-left
returns-in_err-left t c =
    let at = (goal.at.returns-in_err-left t c).Else-node-gt0 in
    rw c.from_residual.ensures (sym (left_faults _ _ _ _ _ (deep t at) (within t at) (none t at) (sym c.in_err-left.ensures)))

pub returns-then-left-node : goal.returns-then-left-node
returns-then-left-node t c =
    let at = (goal.at.returns-then-left-node t c).Else-node-gt0 in
    sym (left_ends_elsewhere _ _ _ _ _ (deep t at) (within t at) (none t at) _ _ _ (sym c.in_ok-left.ensures) (λ e. c.if-left-node.true (e ∙ sym (start t at))))

pub returns-in_err-right : goal.returns-in_err-right
unfolding with_left boxed_by
returns-in_err-right t c =
    let at = (goal.at.returns-in_err-right t c).Else-node-gt0 in
    let right : walk c.args.self.now.mesh c.args.self.now.tree (c.args.depth - 1) c.in_ok-left.left.node c.in_ok-left.left.item ≡ None = rw c.if-left-node.false (sym c.in_err-right.ensures) in
    rw
    (c.from_residual-in_err-right.ensures, right_follows _ _ _ _ _ (deep t at) (within t at) (none t at) _ _ _ (sym c.in_ok-left.ensures) (c.if-left-node.false ∙ start t at), right)

pub returns : goal.returns
unfolding with_left
returns t c =
    let at = (goal.at.returns t c).Else-node-gt0 in
    let right : walk c.args.self.now.mesh c.args.self.now.tree (c.args.depth - 1) c.in_ok-left.left.node c.in_ok-left.left.item ≡ Some c.in_ok-right.right = rw c.if-left-node.false (sym c.in_ok-right.ensures) in
    let boxes : c.tree.inside.boxes.now ≡ c.args.self.now.tree.boxes = rw (← c.self.view_is, ← c.tree.view_is) in
    rw
    (right_follows _ _ _ _ _ (deep t at) (within t at) (none t at) _ _ _ (sym c.in_ok-left.ensures) (c.if-left-node.false ∙ start t at), right, ← c.join.ensures, ← boxes, ← c.node_box.ensures)
    c.boxed.ensures
