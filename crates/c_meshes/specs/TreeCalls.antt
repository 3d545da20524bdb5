-- What `csx_build_tree` and `csx_check_tree` promise: the number that stands for the answer of `build` or `check_tree`, and the buffers as these
-- leave them. Definitions only.
use Rattle.std.specs.Prelude.{ℕ, ◌≡◌, true, List, Float, length}
use Rattle.lent.specs.Over.{over}
use Rattle.refusal.specs.Verdicts.{returned, written}
use Rattle.mesh.specs.Mesh.{Mesh}
use Rattle.tree.specs.Tree.{Tree, node_count}
use Rattle.builder.specs.Builder.{layout}
use Rattle.bvh.specs.Build.{build_verdict}
use Rattle.mesh.specs.WorkPlaces.{zeros, work_left}
use Rattle.tree_check.specs.Check.{check_verdict}

-- the number returned, and of each buffer, lent as ₀ and left as ₁, the list of the builder rule's tree in front unless 1 to 6 refuse, and the rest as it was
pub record Builds (m : Mesh) (boxes₀ : List Float) (nodes₀ items₀ : List ℕ) (result : ℕ) (boxes₁ : List Float) (nodes₁ items₁ : List ℕ) : Type 0 where
  pub answer : result ≡ returned (build_verdict m boxes₀ nodes₀ items₀) (node_count (layout m))
  pub boxes : boxes₁ ≡ over (written (build_verdict m boxes₀ nodes₀ items₀) (layout m).boxes) boxes₀
  pub nodes : nodes₁ ≡ over (written (build_verdict m boxes₀ nodes₀ items₀) (layout m).nodes) nodes₀
  pub items : items₁ ≡ over (written (build_verdict m boxes₀ nodes₀ items₀) (layout m).items) items₀

-- the number returned, and of the work places, lent as ₀ and left as ₁, a 0 for each corner unless 1 to 6 refuse, and the rest as it was
pub record Checks (m : Mesh) (t : Tree) (work₀ : List ℕ) (result : ℕ) (work₁ : List ℕ) : Type 0 where
  pub answer : result ≡ returned (check_verdict m t (length work₀)) 0
  pub work : work₁ ≡ over (work_left true m (length work₀) (check_verdict m t (length work₀)) (zeros m)) work₀
