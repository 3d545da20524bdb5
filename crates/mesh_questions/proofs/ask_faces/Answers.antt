use native.Mathlib.Omega.{arith}
use mathlib.Core.Path.{◌≡◌, refl, sym, ◌∙◌}
use lib.ListN.{length, drop, drop_of_length-le}
use Rattle.std.proofs.lemmas.Result.{err_from_is_err_and}
use Rattle.refusal.specs.Verdicts.{Passed}
use Rattle.mesh_questions.specs.Faces.{faces, faces_from}
use Rattle.mesh_questions.specs.MeshQuestions.{ask_faces}
use Rattle.mesh_questions.specs.laws.QuestionLaws.{ends_fit_step, ask_faces_next}
use Rattle.mesh_questions.proofs.ask_faces.Goals as goal

pub loop-i-init : goal.loop-i-init
unfolding faces
loop-i-init c = (c.requires.1, refl)

pub returns-in_err-ask_face : goal.returns-in_err-ask_face
returns-in_err-ask_face c =
    let next = ask_faces_next c.args.vertices c.loop-i.i c.loop-i.start c.args.corners.now c.args.ends.now c.loop-i.i (omega arith) in
    let p = err_from_is_err_and c.from_residual.result c.from_residual.ensures.1 in
    rw (p.1, p.2) (sym (next ∙ rw (sym c.in_err-ask_face.ensures)) ∙ c.loop-i.invariant.1)

pub loop-i-preserved : goal.loop-i-preserved
loop-i-preserved c =
    let next = ask_faces_next c.args.vertices c.loop-i.i c.loop-i.start c.args.corners.now c.args.ends.now c.loop-i.i (omega arith) in
    let passed = rw (sym c.in_ok-ask_face.ensures) at next in
    ((ends_fit_step c.loop-i.start (length c.args.corners.now) c.args.ends.now c.loop-i.i (omega arith) c.loop-i.invariant.0).2, sym passed ∙ c.loop-i.invariant.1)

pub returns : goal.returns
unfolding ask_faces faces_from
returns c =
    let ends = c.args.ends.now in
    let i = c.loop-i.i in
    let end : ask_faces c.args.vertices i (faces_from c.loop-i.start c.args.corners.now (drop i ends)) ≡ Passed = rw (drop_of_length-le ends {i = i} (omega arith)) in
    sym end ∙ c.loop-i.invariant.1
