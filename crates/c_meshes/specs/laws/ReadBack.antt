-- Every number that `csx_from_triangles` and `csx_build_tree` return can be read back (`Rattle.refusal.specs.laws.Places`): the place of each refusal
-- is below 1,000,000, and so is the number of nodes. For `csx_check_tree` that is `below_check` of crate `tree_check`.
use Rattle.std.specs.Prelude.{ℕ, ◌/◌, ◌<◌, ◌≡◌, refl, List, leb, Float, length}
use Rattle.std.proofs.Common.{arith}
use Rattle.refusal.specs.declared.Refusal.TheVariants as Refusals
use Rattle.refusal.specs.Verdicts.{Passed, ask, then}
use Rattle.refusal.specs.laws.VerdictLaws.{ask_passed, then_passed}
use Rattle.refusal.specs.laws.Places.{Below, below_ask, below_then}
use Rattle.math.specs.laws.VectorLaws as VectorLaws
use Rattle.math.specs.Vectors as Vectors
use Rattle.mesh.specs.Mesh.{Mesh, triangle_count}
use Rattle.mesh_questions.specs.MeshQuestions.{ask_mesh}
use Rattle.mesh_questions.specs.laws.AcceptedLaws.{accepted}
use Rattle.mesh.specs.laws.Places.{below_finite, below_room}
use Rattle.tree.specs.Tree.{node_count}
use Rattle.bvh.specs.Build as Build
use Rattle.bvh.specs.Build.{ask_build}
use Rattle.builder.specs.Builder.{layout}
use Rattle.builder.specs.laws.BuilderSize.{node_count_le}
use Rattle.bvh.specs.laws.BuildLaws.{few_triangles}
use Rattle.weld.specs.WeldQuestions as Weld
use Rattle.weld.specs.laws.Passed.{whole_passed}
use Rattle.c_meshes.specs.WeldCall as WeldCall

-- welding triangles
below_triangles : (triangles : List Float) (coords corners ends : ℕ) → Below (Weld.ask_triangles triangles coords corners ends)
unfolding Weld.ask_triangles Weld.ask_corners
below_triangles triangles coords corners ends =
    let room = Weld.weld_room (length triangles / 9) coords corners ends in
    below_then (ask (Weld.whole_triangles triangles) Refusals.Coordinates) (then (Weld.ask_corners triangles) (ask room Refusals.Room)) (below_ask (Weld.whole_triangles triangles) Refusals.Coordinates (omega arith)) (λ e.
    let whole = whole_passed triangles (ask_passed (Weld.whole_triangles triangles) Refusals.Coordinates e) in
    below_then (Weld.ask_corners triangles) (ask room Refusals.Room)
    (below_finite Refusals.NotFinite (λ n. refl) 0 (Vectors.points triangles) (omega (arith, VectorLaws.length_points triangles, whole.0, whole.1)))
    (λ e. below_ask room Refusals.Room (omega arith)))

pub below_weld : (triangles coords : List Float) (corners ends sizes : List ℕ) → Below (WeldCall.weld_call_verdict triangles coords corners ends sizes)
unfolding WeldCall.weld_call_verdict
below_weld triangles coords corners ends sizes =
    below_then (Weld.weld_verdict triangles coords corners ends) (ask (leb 2 (length sizes)) Refusals.Room)
    (below_triangles triangles (length coords) (length corners) (length ends))
    (λ e. below_ask (leb 2 (length sizes)) Refusals.Room (omega arith))

-- building a tree
pub below_build : (m : Mesh) (boxes nodes items : ℕ) → Below (ask_build m boxes nodes items)
unfolding ask_build
below_build m boxes nodes items = below_room m (Build.tree_room (triangle_count m) boxes nodes items)

-- the tree has fewer than 1,000,000 nodes
pub nodes_below : (m : Mesh) (boxes nodes items : ℕ) → ask_build m boxes nodes items ≡ Passed → node_count (layout m) < 1000000
unfolding ask_build
nodes_below m boxes nodes items e =
    let mesh = (then_passed (ask_mesh m.coords m.corners m.ends) _ e).0 in
    omega (arith, node_count_le m, few_triangles (accepted _ _ _ mesh))
