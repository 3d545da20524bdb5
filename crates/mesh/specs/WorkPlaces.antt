-- The work places of a call (document 01, Room): question 6, and what a call leaves in them ('Answers, and the questions asked first'). Definitions only.
use Rattle.std.specs.Prelude.{ℕ, Bool, true, false, List, [], leb, length, replicate, Ok, Err}
use Rattle.refusal.specs.declared.Refusal.TheVariants as Refusals
use Rattle.refusal.specs.Verdicts.{Verdict, ask, then, written}
use Rattle.mesh_questions.specs.MeshQuestions.{ask_mesh}
use Rattle.mesh.specs.Mesh.{Mesh}

-- questions 1 to 5, and 6: is there a work place for each corner?
unfoldable pub ask_room : Mesh → ℕ → Verdict
ask_room m work = then (ask_mesh m.coords m.corners m.ends) (ask (leb (length m.corners) work) Refusals.Room)

-- a 0 for each corner
abbrev pub zeros : Mesh → List ℕ
zeros m = replicate (length m.corners) 0

-- what is written into the work places once 1 to 6 are passed: what the call leaves if no question refuses; if one does, zeros where a tree is lent, and nothing else
unfoldable pub left_by : Bool → Mesh → Verdict → List ℕ → List ℕ
left_by tree_lent m (Ok passed) left = left
left_by true m (Err refusal) left = zeros m
left_by false m (Err refusal) left = []

-- what a call with this verdict and so many work places writes into them: nothing if 1 to 6 refuse
unfoldable pub work_left : Bool → Mesh → ℕ → Verdict → List ℕ → List ℕ
work_left tree_lent m work verdict left = written (ask_room m work) (left_by tree_lent m verdict left)
