-- Demand 3, whole (document 01, Agreement): face order, vertex numbers and the choice of accepted tree change no answer; the tree check accepts exactly what keeps the tree rules; the
-- builder writes the tree of the builder rule, which keeps them. The statement only; its proof is `Demand3Theorem.demand3`.
use Rattle.std.specs.Prelude.{ℕ, ◌≡◌, Result, Ok, List, Float, length}
use Rattle.refusal.specs.declared.Refusal.{Refusal}
use Rattle.refusal.specs.Verdicts.{Verdict, Passed}
use Rattle.lent.specs.Over.{over}
use Rattle.mesh_questions.specs.MeshQuestions.{ask_mesh}
use Rattle.mesh.specs.Mesh.{Mesh}
use Rattle.mesh.specs.WorkPlaces.{ask_room}
use Rattle.tree.specs.Tree.{Tree, node_count}
use Rattle.tree.specs.TreeRules.{TreeRules}
use Rattle.tree_check.specs.Check.{check_verdict, Checks}
use Rattle.builder.specs.Builder.{layout}
use Rattle.bvh.specs.Build as Build
use Rattle.polyhedron.specs.PointLists.{ask_list, answers_to, Contains}
use Rattle.polyhedron.specs.Rewritten.{Rewritten}

-- questions 1 to 5 let a mesh pass
abbrev pub IsAccepted : Mesh → Type 0
IsAccepted m = ask_mesh m.coords m.corners m.ends ≡ Passed

pub record Demand3 : Type 0 where
  -- (a) For every accepted mesh m and every rewriting m' of it: m' is accepted; and whatever tree that the check accepts and whatever list that 8 and 9 let pass
  -- are lent with m', `contains_list` refuses nothing, and what it leaves in the answer list are the plain scan's answers of m.
  pub answers : (m m' : Mesh) → IsAccepted m → Rewritten m m'
      → IsAccepted m'
      × ((t : Tree) (list : List Float) (work₀ answers₀ : List ℕ) (result : Verdict) (work₁ answers₁ : List ℕ)
      → Contains m' t list work₀ answers₀ result work₁ answers₁
      → check_verdict m' t (length work₀) ≡ Passed
      → ask_list list (length answers₀) ≡ Passed
      → (result ≡ Passed) × (answers₁ ≡ answers_to m list))
  -- (b) Where questions 1 to 6 refuse nothing, `check_tree` accepts exactly the trees that keep the tree rules, whatever numbers are lent.
  pub check : (m : Mesh) (t : Tree) (work₀ : List ℕ) (result : Verdict) (work₁ : List ℕ)
      → Checks m t work₀ result work₁
      → ask_room m (length work₀) ≡ Passed
      → (result ≡ Passed → TreeRules m t) × (TreeRules m t → result ≡ Passed)
  -- (c) Where questions 1 to 6 refuse nothing, `build` writes the layout of the builder rule's tree, which keeps the tree rules.
  pub builder : (m : Mesh) (boxes₀ : List Float) (nodes₀ items₀ : List ℕ) (result : Result ℕ Refusal) (boxes₁ : List Float) (nodes₁ items₁ : List ℕ)
      → Build.Builds m boxes₀ nodes₀ items₀ result boxes₁ nodes₁ items₁
      → Build.build_verdict m boxes₀ nodes₀ items₀ ≡ Passed
      → (result ≡ Ok (node_count (layout m)))
      × (boxes₁ ≡ over (layout m).boxes boxes₀)
      × (nodes₁ ≡ over (layout m).nodes nodes₀)
      × (items₁ ≡ over (layout m).items items₀)
      × TreeRules m (layout m)
