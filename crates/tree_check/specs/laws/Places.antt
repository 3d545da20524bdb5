-- The places that the tree check's refusals name are below 1,000,000, so that they can be read back from the number that a C function returns.
use Rattle.std.specs.Prelude.{ℕ, leb, length}
use Rattle.std.proofs.Common.{arith}
use Rattle.refusal.specs.declared.Refusal.TheVariants as Refusals
use Rattle.refusal.specs.laws.Places.{Below, below_ask, below_then}
use Rattle.mesh.specs.Mesh.{Mesh}
use Rattle.mesh.specs.WorkPlaces.{ask_room}
use Rattle.mesh.specs.laws.Places.{below_room}
use Rattle.tree.specs.Tree.{Tree}
use Rattle.tree.specs.steps.TreeTest.{tree_test}
use Rattle.tree_check.specs.Check.{ask_tree, check_verdict}

pub below_check : (m : Mesh) (t : Tree) (work : ℕ) → Below (check_verdict m t work)
unfolding check_verdict ask_room ask_tree
below_check m t work =
    below_then (ask_room m work) (ask_tree m t) (below_room m (leb (length m.corners) work)) (λ e. below_ask (tree_test m t) Refusals.Tree (omega arith))
