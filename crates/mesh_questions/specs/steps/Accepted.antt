-- What holds of a mesh that questions 1 to 5 let pass, and what they answer then. Definitions only.
use Rattle.std.specs.Prelude.{ℕ, ◌+◌, ◌*◌, ◌/◌, ◌%◌, ◌≤◌, ◌≡◌, true, List, [], ◌∷◌, Float, length, Result, ◌<◌, get_or}
use Rattle.math.specs.Vectors as Vectors
use Rattle.refusal.specs.declared.Refusal.{Refusal}
use Rattle.refusal.specs.Verdicts.{answered}
use Rattle.mesh_questions.specs.declared.Counts.{Counts}
use Rattle.mesh_questions.specs.Mesh.{mesh, triangle_count}
use Rattle.mesh_questions.specs.MeshQuestions.{ends_fit, ask_mesh}

-- what holds of a mesh that passes 1 and 2, whatever the corner limit
pub record Lengths (coords : List Float) (corners ends : List ℕ) : Type 0 where
  pub vertices : length coords / 3 ≤ 65536
  pub whole : length coords % 3 ≡ 0
  pub faces : length ends ≤ 65536
  pub fit : ends_fit 0 (length corners) ends ≡ true

-- vertices, faces and triangles of an accepted mesh
unfoldable pub counts : List Float → List ℕ → List ℕ → Counts
counts coords corners ends =
    record { vertices = length coords / 3; faces = length ends; triangles = triangle_count (mesh coords corners ends) }

-- what questions 1 to 5 answer: the refusal, or the counts
unfoldable pub mesh_asked : List Float → List ℕ → List ℕ → Result Counts Refusal
mesh_asked coords corners ends = answered (ask_mesh coords corners ends) (counts coords corners ends)

-- each face has three corners or more, the first beginning at place `start`
abbrev pub Wide : ℕ → List ℕ → Type 0
Wide start [] = Prim.Unit {0}
Wide start (end ∷ rest) = (start + 3 ≤ end) × Wide end rest

-- the facts of an accepted mesh
pub record Accepted (coords : List Float) (corners ends : List ℕ) : Type 0 where
  pub lengths : Lengths coords corners ends
  pub limit : length corners ≤ 262144
  pub wide : Wide 0 ends
  pub below : (i : ℕ) → i < length corners → get_or corners i 0 < length coords / 3
  pub finite : (v : ℕ) → v < length coords / 3 → Vectors.is_finite (Vectors.at coords (3 * v)) ≡ true

-- the facts by which triangle t of a mesh is found
pub record Fanned (corners ends : List ℕ) : Type 0 where
  pub faces : length ends ≤ 65536
  pub few : length corners ≤ 4294967296
  pub fit : ends_fit 0 (length corners) ends ≡ true
  pub wide : Wide 0 ends
