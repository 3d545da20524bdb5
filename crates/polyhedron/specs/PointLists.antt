-- Answering a list of points (document 01, 'Answers, and the questions asked first'): questions 1 to 9, the answers, and what is left in the work places.
-- Definitions only.
use Rattle.std.specs.Prelude.{ℕ, ◌/◌, ◌%◌, ◌≡◌, Bool, true, ◌&&◌, List, map, eqb, leb, Float, length}
use Rattle.keys.specs.Sorting.{sorted}
use Rattle.lent.specs.Floats.{F64s}
use Rattle.lent.specs.Over.{over}
use Rattle.refusal.specs.declared.Refusal.TheVariants as Refusals
use Rattle.refusal.specs.Verdicts.{Verdict, ask, then, written}
use Rattle.math.specs.Vectors.{points}
use Rattle.mesh_questions.specs.Faces.{faces}
use Rattle.mesh_questions.specs.MeshQuestions.{ask_finite}
use Rattle.mesh.specs.Mesh.{Mesh}
use Rattle.mesh.specs.WorkPlaces.{work_left}
use Rattle.edges.specs.Edges.{edge_keys}
use Rattle.tree.specs.Tree.{Tree}
use Rattle.tree_check.specs.Check.{check_verdict}
use Rattle.scan.specs.Scan.{plain_scan}

-- question 8: is the point list a multiple of 3, of at most 65,536 points, and the answer list a third as long?
unfoldable pub list_fits : ℕ → ℕ → Bool
list_fits numbers places = eqb (numbers % 3) 0 && leb (numbers / 3) 65536 && eqb places (numbers / 3)

-- question 9: is each point finite?
unfoldable pub ask_points : List Float → Verdict
ask_points list = ask_finite Refusals.Point 0 (points list)

-- questions 8 and 9 of a point list, with so many places for answers
unfoldable pub ask_list : List Float → ℕ → Verdict
ask_list list places = then (ask (list_fits (length list) places) Refusals.PointList) (ask_points list)

-- questions 1 to 9, with so many work places and places for answers
unfoldable pub list_verdict : Mesh → Tree → ℕ → List Float → ℕ → Verdict
list_verdict m t work list places = then (check_verdict m t work) (ask_list list places)

-- the plain scan's answer to each point of a list, in order
unfoldable pub answers_to : Mesh → List Float → List ℕ
answers_to m list = map (plain_scan m) (points list)

-- the answers that are given: none if a question refuses
unfoldable pub list_answer : Mesh → Tree → ℕ → List Float → ℕ → List ℕ
list_answer m t work list places = written (list_verdict m t work list places) (answers_to m list)

-- what is written into the work places: the edge keys, ascending, if no question refuses
unfoldable pub list_work : Mesh → Tree → ℕ → List Float → ℕ → List ℕ
list_work m t work list places = work_left true m work (list_verdict m t work list places) (sorted (edge_keys (faces m.corners m.ends)))

-- what `contains_list` promises: its verdict, and of the two buffers, lent as ₀ and left as ₁, what is written in front and the rest as it was. What it is lent are f64 values.
pub record Contains (m : Mesh) (t : Tree) (list : List Float) (work₀ answers₀ : List ℕ) (result : Verdict) (work₁ answers₁ : List ℕ) : Type 0 where
  pub floats : F64s m.coords
  pub answer : result ≡ list_verdict m t (length work₀) list (length answers₀)
  pub answers : answers₁ ≡ over (list_answer m t (length work₀) list (length answers₀)) answers₀
  pub work : work₁ ≡ over (list_work m t (length work₀) list (length answers₀)) work₀
