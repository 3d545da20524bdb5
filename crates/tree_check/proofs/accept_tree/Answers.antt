-- `accept_tree` meets its contract: a refusal by 1 to 6 comes before the first write (`refused`), and else `ask_tree` promises the rest
-- (`asked`).
use Prim.Native.Nat.{ℕ}
use mathlib.Core.Path.{◌≡◌, sym}
use mathlib.Core.List.{List}
use lib.ListN.{length}
use Rattle.std.specs.Prelude.{Err}
use Rattle.std.proofs.lemmas.Result.{err_from_is_err_and}
use Rattle.lent.specs.Over.{over}
use Rattle.refusal.specs.declared.Refusal.{Refusal}
use Rattle.refusal.specs.Verdicts.{Passed, Verdict, answered, written}
use Rattle.refusal.specs.laws.VerdictLaws.{answered_ok, answered_err, ask_passed}
use Rattle.mesh.specs.Mesh.{Mesh}
use Rattle.mesh.specs.WorkPlaces.{ask_room, work_left}
use Rattle.mesh.specs.laws.WorkLaws.{room_passed, zeros_left}
use Rattle.tree.specs.Tree.{Tree}
use Rattle.tree.specs.laws.TreeTheorem.{sound}
use Rattle.tree_check.specs.Check.{ask_tree, check_verdict}
use Rattle.tree_check.specs.steps.CheckSteps.{AsksTree, AcceptsTree}
use Rattle.tree_check.proofs.accept_tree.Goals.{In_ok-accepted}
use Rattle.tree_check.proofs.accept_tree.Goals as goal

refused : (m : Mesh) (t : Tree) (work : List ℕ) (refusal : Refusal) → ask_room m (length work) ≡ Err refusal → AcceptsTree m t work (Err refusal) work
unfolding check_verdict work_left written over
refused m t work refusal e = record { answer = rw e; work = rw e }

asked : (m : Mesh) (t : Tree) (work₀ work : List ℕ) (v : Verdict) → ask_room m (length work₀) ≡ Passed → AsksTree m t work₀ v work → AcceptsTree m t work₀ (answered v (record { mesh = m; tree = t })) work
unfolding check_verdict work_left written
asked m t work₀ work v e tree = record { answer = rw (e, tree.answer); work = rw (e, zeros_left m (ask_tree m t)) tree.work }

-- what is known once 1 to 6 are passed
passed : (c : In_ok-accepted) → (ask_room c.args.mesh.now (length c.args.work.now) ≡ Passed) × (c.in_ok-accepted.accepted ≡ c.args.mesh.now)
passed c = answered_ok _ _ _ (sym c.in_ok-accepted.ensures)

pub returns-in_err-accepted : goal.returns-in_err-accepted
returns-in_err-accepted c =
    let p = err_from_is_err_and c.from_residual.result c.from_residual.ensures.1 in
    rw (p.1, p.2) (refused _ _ _ _ (answered_err _ _ _ (sym c.in_err-accepted.ensures)))

pub ask_tree-requires : goal.ask_tree-requires
ask_tree-requires c =
    let room = passed (goal.at.ask_tree-requires c).In_ok-accepted in
    rw room.1 (room_passed c.args.mesh.now _ room.0).1

pub returns-in_err-ask_tree : goal.returns-in_err-ask_tree
returns-in_err-ask_tree c =
    let room = passed (goal.at.returns-in_err-ask_tree c).In_ok-accepted in
    let p = err_from_is_err_and c.from_residual-in_err-ask_tree.result c.from_residual-in_err-ask_tree.ensures.1 in
    rw (p.1, p.2) (asked _ _ _ _ (Err _) room.0 (rw room.1 at c.in_err-ask_tree.ensures))

pub invariant_of-result : goal.invariant_of-result
unfolding ask_tree
invariant_of-result c =
    let room = passed (goal.at.invariant_of-result c).In_ok-accepted in
    let tree = rw (room.1, ← c.tree.view_is) at c.in_ok-ask_tree.ensures in
    rw room.1 ((room_passed c.args.mesh.now _ room.0).0, sound _ _ (ask_passed _ _ (sym tree.answer)))

pub returns : goal.returns
returns c =
    let room = passed (goal.at.returns c).In_ok-accepted in
    rw (room.1, c.tree.view_is) (asked _ _ _ _ Passed room.0 (rw room.1 at c.in_ok-ask_tree.ensures))
