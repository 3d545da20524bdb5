-- `contains_list` meets its contract: the calls promise the verdicts, the work places and the answers, and `ListLaws` leads from there to `Contains`.
use mathlib.Core.Path.{◌≡◌, sym}
use lib.ListN.{length}
use Rattle.std.proofs.lemmas.Result.{err_from_is_err_and}
use Rattle.refusal.specs.Verdicts.{Passed}
use Rattle.refusal.specs.laws.VerdictLaws.{answered_ok, answered_err}
use Rattle.tree_check.specs.Check.{check_verdict}
use Rattle.polyhedron.specs.laws.ListLaws.{checks_of, refused_tree, refused_list, room_left, answerable, answered}
use Rattle.polyhedron.proofs.lists.contains_list.Goals.{In_ok-accepted}
use Rattle.polyhedron.proofs.lists.contains_list.Goals as goal

-- what is known once 1 to 7 are passed
passed : (c : In_ok-accepted) → (check_verdict c.args.mesh.now c.args.tree.now (length c.args.work.now) ≡ Passed) × (c.in_ok-accepted.accepted ≡ record { mesh = c.args.mesh.now; tree = c.args.tree.now })
passed c = answered_ok _ _ _ (sym c.in_ok-accepted.ensures.answer)

pub returns-in_err-accepted : goal.returns-in_err-accepted
returns-in_err-accepted c =
    let p = err_from_is_err_and c.from_residual.result c.from_residual.ensures.1 in
    let refused = answered_err _ _ _ (sym c.in_err-accepted.ensures.answer) in
    rw (p.1, p.2) (refused_tree (rw (← c.mesh.view_is) c.floats.ensures) (checks_of c.accept_tree.ensures) c.args.points.now c.args.answers.now refused)

pub returns-in_err-ask_list : goal.returns-in_err-ask_list
returns-in_err-ask_list c =
    let p = err_from_is_err_and c.from_residual-in_err-ask_list.result c.from_residual-in_err-ask_list.ensures.1 in
    let said = passed (goal.at.returns-in_err-ask_list c).In_ok-accepted in
    rw (p.1, p.2) (refused_list (rw (← c.mesh.view_is) c.floats.ensures) (checks_of c.accept_tree.ensures) said.0 c.args.points.now c.args.answers.now (sym c.in_err-ask_list.ensures))

pub new-prepared-requires : goal.new-prepared-requires
new-prepared-requires c =
    let said = passed (goal.at.new-prepared-requires c).In_ok-accepted in
    rw said.1 (room_left (rw (← c.mesh.view_is) c.floats.ensures) (checks_of c.accept_tree.ensures) said.0)

pub answer_points-requires : goal.answer_points-requires
answer_points-requires c =
    let said = passed (goal.at.answer_points-requires c).In_ok-accepted in
    answerable (rw (← c.mesh.view_is) c.floats.ensures) (checks_of c.accept_tree.ensures) said.0 c.args.points.now c.args.answers.now (sym c.in_ok-ask_list.ensures)

pub returns : goal.returns
returns c =
    let said = passed (goal.at.returns c).In_ok-accepted in
    let mesh = rw said.1 at c.new-prepared.ensures in
    answered (rw (← c.mesh.view_is) c.floats.ensures) (checks_of c.accept_tree.ensures) said.0 c.args.points.now c.args.answers.now (sym c.in_ok-ask_list.ensures) mesh.work (rw mesh.mesh at c.answer_points.ensures)
