-- `AcceptedMesh::accept` meets its contract: questions 1 to 5 let the mesh pass.
use mathlib.Core.Path.{sym}
use Rattle.std.proofs.lemmas.Result.{err_from_is_err_and}
use Rattle.mesh_questions.specs.laws.AcceptedLaws.{asked, asked_passed, asked_refused}
use Rattle.mesh.proofs.AcceptedMesh.accept.Goals as goal

pub returns-in_err-ask : goal.returns-in_err-ask
returns-in_err-ask c =
    let p = err_from_is_err_and c.from_residual.result c.from_residual.ensures.1 in
    rw (p.1, p.2, asked_refused _ _ _ _ (sym c.in_err-ask.ensures))

pub invariant_of-result : goal.invariant_of-result
invariant_of-result c = (rw (← c.mesh.view_is) at (asked _ _ _ _ (sym c.in_ok-ask.ensures)).0, c.sides.ensures)

pub returns : goal.returns
returns c = rw (asked_passed _ _ _ _ (sym c.in_ok-ask.ensures), c.mesh.view_is)
