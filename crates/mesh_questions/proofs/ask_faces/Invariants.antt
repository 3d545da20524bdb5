-- `ask_faces` meets its contract. The invariant: the ends from face i on fit behind the start, and the faces from i on, asked from number i,
-- give the answer of all.
use mathlib.Core.Path.{◌≡◌}
use mathlib.Core.Bool.{true}
use lib.ListN.{length, drop}
use Rattle.mesh_questions.specs.Faces.{faces, faces_from}
use Rattle.mesh_questions.specs.MeshQuestions.{ends_fit, ask_faces}
use Rattle.mesh_questions.proofs.ask_faces.Given as goal

abbrev pub invariant-loop-i : goal.invariant-loop-i
invariant-loop-i l =
    (ends_fit l.start (length l.corners) (drop l.i l.ends) ≡ true)
    × (ask_faces l.vertices l.i (faces_from l.start l.corners (drop l.i l.ends)) ≡ ask_faces l.vertices 0 (faces l.corners l.ends))
