-- Document 01's builder rule (csx's bvh.rs): the tree that the builder makes of a mesh, and the lent lists that hold it. Definitions only.
use Rattle.std.specs.Prelude.{ℕ, zero, suc, ◌+◌, ◌/◌, true, false, cond, List, [], ◌∷◌, ◌++◌, eqb, leb, Float, length, take, drop}
use Rattle.std.specs.Float.{inf}
use Rattle.float.specs.Arithmetic.{◌⊖◌}
use Rattle.float.specs.Rules as Rules
use Rattle.float.specs.TotalOrder.{order_key}
use Rattle.keys.specs.Sorting.{sorted_by, sorted}
use Rattle.math.specs.declared.Vec3.{Vec3}
use Rattle.math.specs.declared.BoundingBox.{BoundingBox}
use Rattle.math.specs.Vectors as Vectors
use Rattle.mesh.specs.MeshBoxes.{triangle_center}
use Rattle.mesh.specs.Mesh.{Mesh, triangle_count, triangle_at, all_triangles}
unfoldable pub use Rattle.mesh.specs.Mesh.{join_all, node_box}
use Rattle.tree.specs.Tree.{Tree, node_numbers}

-- ---- the split

-- the centre of triangle t
unfoldable pub center_of : Mesh → ℕ → Vec3
center_of m t = triangle_center m.coords (triangle_at m t)

-- its component on an axis
unfoldable pub center_on : Mesh → ℕ → ℕ → Float
center_on m axis t = Vectors.component (center_of m t) axis

-- its sort key there: total order, −0 before +0
unfoldable pub center_key : Mesh → ℕ → ℕ → ℕ
center_key m axis t = order_key (center_on m axis t)

-- above every sort key: the largest u64, which is the key of a NaN alone
abbrev pub top_rank : ℕ
top_rank = 18446744073709551615

-- the lowest of `lo` and the finite centres of a list, in the list's order
unfoldable pub lowest : Mesh → ℕ → Float → List ℕ → Float
lowest m axis lo [] = lo
lowest m axis lo (t ∷ rest) = lowest m axis (cond (Rules.is_finite (center_on m axis t)) (Rules.min lo (center_on m axis t)) lo) rest

-- the highest of `hi` and the finite centres of a list, in the list's order
unfoldable pub highest : Mesh → ℕ → Float → List ℕ → Float
highest m axis hi [] = hi
highest m axis hi (t ∷ rest) = highest m axis (cond (Rules.is_finite (center_on m axis t)) (Rules.max hi (center_on m axis t)) hi) rest

-- the spread of finite centres on an axis: highest less lowest, from −∞ and +∞
unfoldable pub spread : Mesh → List ℕ → ℕ → Float
spread m items axis = highest m axis (inf true) items ⊖ lowest m axis (inf false) items

-- of axes a and b that of greater spread in total order, b on a tie
unfoldable pub wider : Mesh → List ℕ → ℕ → ℕ → ℕ
wider m items a b = cond (leb (order_key (spread m items a)) (order_key (spread m items b))) b a

-- the axis of greatest spread of finite centres, the last on a tie
unfoldable pub split_axis : Mesh → List ℕ → ℕ
split_axis m items = wider m items (wider m items 0 1) 2

-- ascending items by centre in total order, equal centres by triangle number: the sort keeps the order of equal keys
unfoldable pub by_center : Mesh → List ℕ → List ℕ
by_center m items = sorted_by (center_key m (split_axis m items)) items

-- the lower half, rounded down, goes left; the items ascend again
unfoldable pub left_items : Mesh → List ℕ → List ℕ
left_items m items = sorted (take (length items / 2) (by_center m items))

-- the rest goes right; the items ascend again
unfoldable pub right_items : Mesh → List ℕ → List ℕ
right_items m items = sorted (drop (length items / 2) (by_center m items))

-- ---- the box of a node: it is joined from its triangles' boxes in ascending triangle number, starting with the first one's: `node_box` of Rattle.mesh.specs.Mesh

-- ---- the tree

-- a built tree: a leaf has a box and its items, an inner node a box and two subtrees
pub data BoxTree : Type 0 where
  leaf_node : BoundingBox → List ℕ → BoxTree
  inner_node : BoundingBox → BoxTree → BoxTree → BoxTree

-- at most four items make a leaf, more are split, with `fuel` splits below one another at most
unfoldable pub build : Mesh → ℕ → List ℕ → BoxTree
build m zero items = leaf_node (node_box m items) items
build m (suc fuel) items =
    cond
    (leb (length items) 4)
    (leaf_node (node_box m items) items)
    (inner_node (node_box m items) (build m fuel (left_items m items)) (build m fuel (right_items m items)))

-- the tree over ascending items; as many splits as items are enough
unfoldable pub tree_over : Mesh → List ℕ → BoxTree
tree_over m items = build m (length items) items

-- the tree over all triangles
unfoldable pub builder_tree : Mesh → BoxTree
builder_tree m = tree_over m (all_triangles m)

-- ---- the lent lists

-- the six floats of a box
abbrev pub edges : BoundingBox → List Float
edges b = b.min.x ∷ b.min.y ∷ b.min.z ∷ b.max.x ∷ b.max.y ∷ b.max.z ∷ []

-- how many nodes a tree has
unfoldable pub size : BoxTree → ℕ
size (leaf_node b items) = 1
size (inner_node b left right) = 1 + size left + size right

-- the boxes: each node before its subtrees, left before right
unfoldable pub box_list : BoxTree → List Float
box_list (leaf_node b items) = edges b
box_list (inner_node b left right) = edges b ++ (box_list left ++ box_list right)

-- the items, leaf after leaf
unfoldable pub item_list : BoxTree → List ℕ
item_list (leaf_node b items) = items
item_list (inner_node b left right) = item_list left ++ item_list right

-- start and count of each node, of a tree whose root is node n and whose items begin at place i: a leaf's start is its first item place,
-- an inner node's start is its right child and its count is 0
unfoldable pub node_list : ℕ → ℕ → BoxTree → List ℕ
node_list n i (leaf_node b items) = node_numbers (record { start = i; count = length items })
node_list n i (inner_node b left right) =
    let r = n + 1 + size left in
    node_numbers (record { start = r; count = 0 }) ++ (node_list (n + 1) i left ++ node_list r (i + length (item_list left)) right)

-- the lent lists of a built tree
unfoldable pub lists : BoxTree → Tree
lists b = record { boxes = box_list b; nodes = node_list 0 0 b; items = item_list b }

-- the lent lists that the builder makes of a mesh; there are no nodes exactly when there are no triangles
unfoldable pub layout : Mesh → Tree
layout m = cond (eqb (triangle_count m) 0) (record { boxes = []; nodes = []; items = [] }) (lists (builder_tree m))
