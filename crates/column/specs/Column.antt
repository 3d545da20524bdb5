-- The column call (document 01, Column text): what the lines of a text become, its questions in their order, and its listing. Definitions only.
use Rattle.std.specs.Prelude.{ℕ, ◌+◌, ◌≡◌, Result, Ok, Err, List, [], leb, Float, length, take, drop}
use Rattle.lent.specs.Over.{over}
use Rattle.refusal.specs.declared.Refusal.{Refusal}
use Rattle.refusal.specs.declared.Refusal.TheVariants as Refusals
use Rattle.refusal.specs.Verdicts.{Verdict, ask, then, answered, written}
use Rattle.text.specs.declared.Counts.{Counts}
use Rattle.text.specs.Lines.{none, lines, judge}
use Rattle.column.specs.Numbers.{float_of, corner_of, numbers_of, ends_from}
use Rattle.text.specs.Listing.{listing_text, listing_length}
use Rattle.mesh.specs.Mesh.{Mesh, mesh}
use Rattle.mesh_questions.specs.MeshQuestions.{ask_mesh}
use Rattle.polyhedron.specs.PointLists.{answers_to}

-- ---- what the lines become

-- the mesh that lines with these counts say: first the vertices, then the triangles
unfoldable pub mesh_of : Counts → List (List ℕ) → Mesh
mesh_of counts l =
    mesh (numbers_of float_of (take counts.vertices l)) (numbers_of corner_of (take counts.triangles (drop counts.vertices l))) (ends_from 0 counts.triangles)

-- and the points behind them
unfoldable pub points_of : Counts → List (List ℕ) → List Float
points_of counts l = numbers_of float_of (drop (counts.vertices + counts.triangles) l)

-- ---- the call

-- 1 to 5 of the mesh, and 6 for the listing of so many points in so many bytes
unfoldable pub ask_column : Mesh → ℕ → ℕ → Verdict
ask_column m points room = then (ask_mesh m.coords m.corners m.ends) (ask (leb (listing_length points) room) Refusals.Room)

-- 12 first, then these
unfoldable pub judged_verdict : Result Counts ℕ → List (List ℕ) → ℕ → Verdict
judged_verdict (Err line) l room = Err (Refusals.Line line)
judged_verdict (Ok counts) l room = ask_column (mesh_of counts l) counts.points room

-- the listing of the plain scan's answers
unfoldable pub column_listing : Result Counts ℕ → List (List ℕ) → List ℕ
column_listing (Err line) l = []
column_listing (Ok counts) l = listing_text (answers_to (mesh_of counts l) (points_of counts l))

-- the lines of a text judged, counted from 1
unfoldable pub judged : List ℕ → Result Counts ℕ
judged text = judge 1 none (lines text)

-- the verdict on a text and a buffer of so many bytes
unfoldable pub column_verdict : List ℕ → ℕ → Verdict
column_verdict text room = judged_verdict (judged text) (lines text) room

-- what the call writes: the listing, or nothing if a question refuses
unfoldable pub column_answer : List ℕ → ℕ → List ℕ
column_answer text room = written (column_verdict text room) (column_listing (judged text) (lines text))

-- what `point_list` promises: the number of bytes or the refusal, and of the buffer, lent as ₀ and left as ₁, the listing in front and the rest as it was
pub record Lists (text listing₀ : List ℕ) (result : Result ℕ Refusal) (listing₁ : List ℕ) : Type 0 where
  pub answer : result ≡ answered (column_verdict text (length listing₀)) (length (column_answer text (length listing₀)))
  pub listing : listing₁ ≡ over (column_answer text (length listing₀)) listing₀
