-- Written out, so that a wrong `ask_face` is refused at once.
use native.Mathlib.Omega.{arith}
use Rattle.std.proofs.Common.{length, le-leb, sym, ◌∙◌}
use Rattle.mesh_questions.specs.MeshQuestions.{ask_face}
use Rattle.mesh_questions.proofs.ask_face.Goals as goal

pub returns-then-not-all_below : goal.returns-then-not-all_below
unfolding ask_face
returns-then-not-all_below c =
    rw (le-leb 3 (length c.args.face.now) (omega arith), sym c.all_below.ensures ∙ c.if-not-all_below.true)
