-- A worked rewriting, so that demand 3 speaks of something: the tetrahedron of document 01's column text, one unit wide, with its last face put first and each
-- vertex v renumbered v + 1, the last one 0. No face keeps its place and no vertex its number. The tetrahedron is accepted, and its coordinates are f64 values.
use Rattle.std.specs.Prelude.{ℕ, suc, ◌+◌, ◌%◌, ◌<◌, ◌≡◌, refl, Bool, true, ◌&&◌, Float}
use Rattle.std.proofs.Common.{arith}
use mathlib.Core.List.{List, [], ◌∷◌, flatten}
use Rattle.std.specs.Float.{binary64}
use Rattle.std.specs.Float.Ieee.{of_bits, fits}
use Rattle.refusal.specs.laws.VerdictLaws.{both}
use Rattle.float.specs.Arithmetic.{zero, one}
use Rattle.float.specs.Rules as Rules
use Rattle.lent.specs.laws.ReorderedLaws.{reordered_exchange}
use Rattle.math.specs.Vectors as Vectors
use Rattle.mesh_questions.specs.Faces.{faces_from, faces}
use Rattle.mesh.specs.MeshBoxes.{vertex}
use Rattle.mesh_questions.specs.MeshQuestions.{whole_vertices, ends_fit, faces_fit, ask_lengths, all_below, ask_face, ask_faces, ask_finite, ask_parts, ask_mesh}
use Rattle.mesh.specs.Mesh.{Mesh, mesh}
use Rattle.polyhedron.specs.Rewritten.{ends_of, Rewritten}
use Rattle.lent.specs.Floats.{F64s}
use Rattle.polyhedron.specs.Demand3.{IsAccepted}

-- the vertices (0, 0, 0), (1, 0, 0), (0, 1, 0) and (0, 0, 1), and the faces 0 2 1, 0 1 3, 0 3 2 and 1 2 3
abbrev pub tetrahedron : Mesh
tetrahedron =
    mesh
    (zero ∷ zero ∷ zero ∷ one ∷ zero ∷ zero ∷ zero ∷ one ∷ zero ∷ zero ∷ zero ∷ one ∷ [])
    (0 ∷ 2 ∷ 1 ∷ 0 ∷ 1 ∷ 3 ∷ 0 ∷ 3 ∷ 2 ∷ 1 ∷ 2 ∷ 3 ∷ [])
    (3 ∷ 6 ∷ 9 ∷ 12 ∷ [])

-- the vertices (0, 0, 1), (0, 0, 0), (1, 0, 0) and (0, 1, 0), and the faces 2 3 0, 1 3 2, 1 2 0 and 1 0 3
abbrev pub rewritten : Mesh
rewritten =
    mesh
    (zero ∷ zero ∷ one ∷ zero ∷ zero ∷ zero ∷ one ∷ zero ∷ zero ∷ zero ∷ one ∷ zero ∷ [])
    (2 ∷ 3 ∷ 0 ∷ 1 ∷ 3 ∷ 2 ∷ 1 ∷ 2 ∷ 0 ∷ 1 ∷ 0 ∷ 3 ∷ [])
    (3 ∷ 6 ∷ 9 ∷ 12 ∷ [])

-- questions 1 to 5 let the tetrahedron pass
pub tetrahedron_accepted : IsAccepted tetrahedron
unfolding ask_mesh ask_lengths whole_vertices faces_fit ends_fit ask_parts faces faces_from ask_faces ask_face all_below ask_finite Vectors.points Vectors.is_finite Rules.is_finite of_bits
tetrahedron_accepted = refl

-- whether each number of a list is an f64 value
all_fit : List Float → Bool
all_fit [] = true
all_fit (x ∷ rest) = fits binary64 x && all_fit rest

fit_at : (list : List Float) → all_fit list ≡ true → F64s list
unfolding all_fit fits
fit_at [] e k = tt
fit_at (x ∷ rest) e ℕ.zero = rw (both (fits binary64 x) (all_fit rest) e).0 tt
fit_at (x ∷ rest) e (suc k) = fit_at rest (both (fits binary64 x) (all_fit rest) e).1 k

-- its coordinates are f64 values
pub tetrahedron_f64 : F64s tetrahedron.coords
unfolding all_fit fits of_bits
tetrahedron_f64 = fit_at tetrahedron.coords refl

vertices_moved : (v : ℕ) → v < 4 → vertex rewritten.coords ((v + 1) % 4) ≡ vertex tetrahedron.coords v
unfolding vertex Vectors.at
vertices_moved ℕ.zero h = refl
vertices_moved (suc ℕ.zero) h = refl
vertices_moved (suc (suc ℕ.zero)) h = refl
vertices_moved (suc (suc (suc ℕ.zero))) h = refl
vertices_moved (suc (suc (suc (suc v)))) h = absurd (omega arith)

-- the second mesh is a rewriting of the tetrahedron
pub worked : Rewritten tetrahedron rewritten
unfolding faces faces_from flatten ends_of
worked =
    record {
      new = λ v. (v + 1) % 4;
      below = λ v h. omega arith;
      apart = λ v w h k e. omega arith;
      long = refl;
      moved = vertices_moved;
      order = (1 ∷ 2 ∷ 3 ∷ []) ∷ (0 ∷ 2 ∷ 1 ∷ []) ∷ (0 ∷ 1 ∷ 3 ∷ []) ∷ (0 ∷ 3 ∷ 2 ∷ []) ∷ [];
      reordered = reordered_exchange ((0 ∷ 2 ∷ 1 ∷ []) ∷ (0 ∷ 1 ∷ 3 ∷ []) ∷ (0 ∷ 3 ∷ 2 ∷ []) ∷ []) ((1 ∷ 2 ∷ 3 ∷ []) ∷ []) [];
      corners = refl;
      ends = refl;
    }
