-- Every number that `csx_contains_list` returns can be read back (`Rattle.refusal.specs.laws.Places`): the place of each refusal is below 1,000,000.
use Rattle.std.specs.Prelude.{ℕ, refl, List, Float, length}
use Rattle.std.proofs.Common.{arith}
use Rattle.refusal.specs.declared.Refusal.TheVariants as Refusals
use Rattle.refusal.specs.Verdicts.{ask}
use Rattle.refusal.specs.laws.VerdictLaws.{ask_passed}
use Rattle.refusal.specs.laws.Places.{Below, below_ask, below_then}
use Rattle.math.specs.laws.VectorLaws as VectorLaws
use Rattle.math.specs.Vectors as Vectors
use Rattle.mesh.specs.Mesh.{Mesh}
use Rattle.mesh.specs.laws.Places.{below_finite}
use Rattle.tree.specs.Tree.{Tree}
use Rattle.tree_check.specs.Check.{check_verdict}
use Rattle.tree_check.specs.laws.Places.{below_check}
use Rattle.polyhedron.specs.PointLists.{list_fits, ask_points, ask_list, list_verdict}
use Rattle.polyhedron.specs.laws.ListLaws.{list_short}

-- questions 8 and 9
below_points : (list : List Float) (places : ℕ) → Below (ask_list list places)
unfolding ask_list ask_points
below_points list places =
    below_then (ask (list_fits (length list) places) Refusals.PointList) (ask_points list) (below_ask (list_fits (length list) places) Refusals.PointList (omega arith)) (λ e.
    let short = list_short list places (ask_passed (list_fits (length list) places) Refusals.PointList e) in
    below_finite Refusals.Point (λ n. refl) 0 (Vectors.points list) (omega (arith, VectorLaws.length_points list, short)))

-- and all questions
pub below_list : (m : Mesh) (t : Tree) (work : ℕ) (list : List Float) (places : ℕ) → Below (list_verdict m t work list places)
unfolding list_verdict
below_list m t work list places =
    below_then (check_verdict m t work) (ask_list list places) (below_check m t work) (λ e. below_points list places)
