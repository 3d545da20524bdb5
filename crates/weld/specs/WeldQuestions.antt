-- Document 01's questions 1, 5 and 6 of triangles to weld, and what `from_triangles` promises. Definitions only.
use Rattle.std.specs.Prelude.{ℕ, ◌*◌, ◌/◌, ◌%◌, Bool, ◌&&◌, ◌≡◌, List, Result, eqb, leb, Float, length}
use Rattle.lent.specs.Over.{over}
use Rattle.math.specs.Vectors.{points}
use Rattle.refusal.specs.declared.Refusal.{Refusal}
use Rattle.refusal.specs.declared.Refusal.TheVariants.{Coordinates, Room}
use Rattle.refusal.specs.Verdicts.{Verdict, ask, then, answered, written}
use Rattle.mesh_questions.specs.MeshQuestions.{ask_vertices}
use Rattle.weld.specs.declared.Counts.{Counts}
use Rattle.weld.specs.Welding as Welding

-- question 1: is the list a multiple of 9 numbers long, with at most 21,845 triangles?
unfoldable pub whole_triangles : List Float → Bool
whole_triangles triangles = eqb (length triangles % 9) 0 && leb (length triangles / 9) 21845

-- question 5: is each coordinate finite? The place is that of the first corner with one that is not, counted through all triangles from 0
unfoldable pub ask_corners : List Float → Verdict
ask_corners triangles = ask_vertices 0 (points triangles)

-- question 6: have lists of these lengths room for so many triangles, 9 floats, 3 corners and one face end each?
unfoldable pub weld_room : ℕ → ℕ → ℕ → ℕ → Bool
weld_room triangles coords corners ends = leb (9 * triangles) coords && leb (3 * triangles) corners && leb triangles ends

-- questions 1, 5 and 6
unfoldable pub ask_triangles : List Float → ℕ → ℕ → ℕ → Verdict
ask_triangles triangles coords corners ends =
    then (ask (whole_triangles triangles) Coordinates)
    (then (ask_corners triangles)
    (ask (weld_room (length triangles / 9) coords corners ends) Room))

-- the verdict on triangles and the lent buffers
abbrev pub weld_verdict : List Float → List Float → List ℕ → List ℕ → Verdict
weld_verdict triangles coords corners ends = ask_triangles triangles (length coords) (length corners) (length ends)

-- so many vertices and faces
abbrev pub sizes : ℕ → ℕ → Counts
sizes vertices faces = record { vertices = vertices; faces = faces }

-- how many are written
abbrev pub counts : List Float → Counts
counts triangles = sizes (length (Welding.vertices triangles)) (length (Welding.faces triangles))

-- what `from_triangles` promises: its answer, and of each buffer, lent as ₀ and left as ₁, the written front and the rest as it was
pub record Welds (triangles coords₀ : List Float) (corners₀ ends₀ : List ℕ) (result : Result Counts Refusal) (coords₁ : List Float) (corners₁ ends₁ : List ℕ) : Type 0 where
  pub answer : result ≡ answered (weld_verdict triangles coords₀ corners₀ ends₀) (counts triangles)
  pub coords : coords₁ ≡ over (written (weld_verdict triangles coords₀ corners₀ ends₀) (Welding.coords triangles)) coords₀
  pub corners : corners₁ ≡ over (written (weld_verdict triangles coords₀ corners₀ ends₀) (Welding.corners triangles)) corners₀
  pub ends : ends₁ ≡ over (written (weld_verdict triangles coords₀ corners₀ ends₀) (Welding.ends triangles)) ends₀
