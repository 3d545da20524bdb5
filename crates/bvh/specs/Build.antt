-- The builder (document 01): questions 1 to 6 and what is written into the lent lists. Definitions only.
use Rattle.std.specs.Prelude.{ℕ, ◌*◌, ◌≡◌, Bool, ◌&&◌, List, leb, Float, length, Result}
use Rattle.lent.specs.Over.{over}
use Rattle.refusal.specs.declared.Refusal.{Refusal}
use Rattle.refusal.specs.declared.Refusal.TheVariants as Refusals
use Rattle.refusal.specs.Verdicts.{Verdict, ask, then, answered, written}
use Rattle.mesh_questions.specs.MeshQuestions.{ask_mesh}
use Rattle.mesh.specs.Mesh.{Mesh, triangle_count}
use Rattle.tree.specs.Tree.{stride, node_count}
use Rattle.builder.specs.Builder.{layout}

-- ---- the public entry

-- question 6: is there room for six floats of boxes, two node numbers and one item a triangle in lists of these lengths?
unfoldable pub tree_room : ℕ → ℕ → ℕ → ℕ → Bool
tree_room triangles boxes nodes items = leb (6 * triangles) boxes && leb (stride * triangles) nodes && leb triangles items

-- questions 1 to 6
unfoldable pub ask_build : Mesh → ℕ → ℕ → ℕ → Verdict
ask_build m boxes nodes items = then (ask_mesh m.coords m.corners m.ends) (ask (tree_room (triangle_count m) boxes nodes items) Refusals.Room)

-- the verdict on a mesh and the lent buffers
abbrev pub build_verdict : Mesh → List Float → List ℕ → List ℕ → Verdict
build_verdict m boxes nodes items = ask_build m (length boxes) (length nodes) (length items)

-- the answer: the number of nodes of the builder rule's tree unless a question refuses
abbrev pub build_answer : Verdict → Mesh → Result ℕ Refusal
build_answer asked m = answered asked (node_count (layout m))

-- what `build` promises: its answer, and of each buffer, lent as ₀ and left as ₁, the list of the builder rule's tree in front and the rest as it was
pub record Builds (m : Mesh) (boxes₀ : List Float) (nodes₀ items₀ : List ℕ) (result : Result ℕ Refusal) (boxes₁ : List Float) (nodes₁ items₁ : List ℕ) : Type 0 where
  pub answer : result ≡ build_answer (build_verdict m boxes₀ nodes₀ items₀) m
  pub boxes : boxes₁ ≡ over (written (build_verdict m boxes₀ nodes₀ items₀) (layout m).boxes) boxes₀
  pub nodes : nodes₁ ≡ over (written (build_verdict m boxes₀ nodes₀ items₀) (layout m).nodes) nodes₀
  pub items : items₁ ≡ over (written (build_verdict m boxes₀ nodes₀ items₀) (layout m).items) items₀
