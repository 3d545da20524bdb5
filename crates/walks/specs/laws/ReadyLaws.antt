-- What a mesh and a tree that are ready for walks have: the items are triangles of the mesh, and neither own boxes nor the boxes of nodes are empty.
use Rattle.std.specs.Prelude.{ℕ, ◌≤◌, ◌<◌, ◌≡◌, false}
use Rattle.std.proofs.Common.{arith}
use Rattle.math.specs.BoundingBoxes.{is_empty}
use Rattle.math.specs.laws.Enclosing.{around_not_empty}
use Rattle.mesh_questions.specs.steps.Accepted.{Accepted}
use Rattle.mesh.specs.Triangles.{triangle}
use Rattle.mesh.specs.laws.CornerLaws.{triangle_finite}
use Rattle.mesh.specs.laws.Centers.{box_some}
use Rattle.mesh.specs.Mesh.{Mesh, triangle_count, triangle_at, own_box}
use Rattle.mesh.specs.steps.Items.{Items}
use Rattle.tree.specs.Tree.{Tree, box_of, item_at}
use Rattle.tree.specs.TreeRules.{Around, Subtree, leaf, inner}
use Rattle.tree.specs.laws.NumberLaws.{items_below}
use Rattle.walks.specs.steps.Leaves.{Ready}
use Rattle.walks.specs.laws.WalkTheorem.{subtree_grows}

-- each item is the number of a triangle
pub ready_items : {m : Mesh} {t : Tree} → Ready m t → Items m t.items
unfolding item_at
ready_items {m} {t} r j h = items_below m t r.rules j (omega (arith, r.rules.items))

-- the own box of a triangle is not empty
pub own_some : {m : Mesh} → Accepted m.coords m.corners m.ends → (k : ℕ) → k < triangle_count m → is_empty (own_box m k) ≡ false
unfolding own_box
own_some {m} a k h = box_some m.coords (triangle_at m k) (triangle_finite m.coords m.corners m.ends a k (triangle 0 0 0) h)

-- nor is the box of a node, which is around an own box
pub node_some : {m : Mesh} {t : Tree} → Ready m t → (depth n i n' i' : ℕ) → Subtree m t depth n i n' i' → i' ≤ triangle_count m → is_empty (box_of t n) ≡ false
node_some {m} {t} r depth n i n' i' s all =
    let grows = subtree_grows m t depth n i n' i' s in
    let here : i < i' = grows.2 in
    around_not_empty (box_of t n) (own_box m (item_at t i)) (around s i (omega arith) here) (own_some r.accepted (item_at t i) (items_below m t r.rules i (omega arith)))
  where
    around : {depth n i n' i' : ℕ} → Subtree m t depth n i n' i' → Around m t n i i'
    around (leaf some few start nodes places a) = a
    around (inner count left right a) = a
