-- The test that computes the tree rules. A node's box is compared with the join of the own boxes below it. Definitions only; laws/TreeTheorem.antt says that the
-- test and the rules agree.
use Prim.Native.Nat.{ℕ, zero, suc, ◌+◌, ◌-◌, ◌*◌}
use Rattle.std.specs.Prelude.{Option, Some, None, Bool, false, cond, ◌&&◌, ◌≡◌, eqb, leb, ltb, length}
use Rattle.tree.specs.steps.Counting.{once_below}
use Rattle.math.specs.declared.BoundingBox.{BoundingBox}
use Rattle.mesh.specs.steps.Items.{Items}
use Rattle.mesh.specs.Mesh.{Mesh, triangle_count, own_box}
use Rattle.math.specs.BoundingBoxes.{encloses, join}
use Rattle.tree.specs.declared.Walked.{Walked}
use Rattle.tree.specs.Tree.{Tree, stride, node_count, box_of, start_of, count_of, item_at}

-- box b joined with the own boxes of the triangles at `places` item places from i on
unfoldable pub join_from : Mesh → Tree → BoundingBox → ℕ → ℕ → BoundingBox
join_from m t b i zero = b
join_from m t b i (suc places) = join_from m t (join b (own_box m (item_at t i))) (i + 1) places

-- the join of the own boxes at `places` item places from i on, at least one
unfoldable pub join_items : Mesh → Tree → ℕ → ℕ → BoundingBox
join_items m t i places = join_from m t (own_box m (item_at t i)) (i + 1) (places - 1)

-- what the walk finds behind a subtree
abbrev pub walked : ℕ → ℕ → BoundingBox → Walked
walked node item joined = record { node = node; item = item; joined = joined }

-- box b has to enclose what lies below it
unfoldable pub boxed_by : BoundingBox → Option Walked → Option Walked
boxed_by b None = None
boxed_by b (Some w) = cond (encloses b w.joined) (Some w) None

-- a node's box has to
abbrev pub boxed : Tree → ℕ → Option Walked → Option Walked
boxed t n w = boxed_by (box_of t n) w

-- what lies below the right child is joined to what lies below the left one
unfoldable pub with_left : BoundingBox → Option Walked → Option Walked
with_left left None = None
with_left left (Some w) = Some (walked w.node w.item (join left w.joined))

-- the right child follows where the left subtree ends, and that is where the node says
unfoldable pub right_child : (ℕ → ℕ → Option Walked) → ℕ → Option Walked → Option Walked
right_child walk start None = None
right_child walk start (Some w) = cond (eqb w.node start) (with_left w.joined (walk w.node w.item)) None

-- the walk at a leaf: it has at most four items, they begin at place i and are in the list
unfoldable pub leaf_walk : Mesh → Tree → ℕ → ℕ → Option Walked
leaf_walk m t n i =
    cond
    (leb (count_of t n) 4 && eqb (start_of t n) i && leb (i + count_of t n) (length t.items))
    (boxed t n (Some (walked (n + 1) (i + count_of t n) (join_items m t i (count_of t n)))))
    None

-- the walk over the subtree of node n, whose items begin at place i, with at most `depth` nodes on a path
unfoldable pub walk : Mesh → Tree → ℕ → ℕ → ℕ → Option Walked
walk m t zero n i = None
walk m t (suc depth) n i =
    cond
    (ltb n (node_count t))
    (cond
    (eqb (count_of t n) 0)
    (boxed t n (right_child (walk m t depth) (start_of t n) (walk m t depth (n + 1) i)))
    (leaf_walk m t n i))
    None

-- whether a walk ended here
unfoldable pub ends_at : Option Walked → ℕ → ℕ → Bool
ends_at None n i = false
ends_at (Some w) n i = eqb w.node n && eqb w.item i

-- no nodes if there are no triangles; else the root's subtree has all nodes and all item places
unfoldable pub root_test : Mesh → Tree → Bool
root_test m t = cond (eqb (triangle_count m) 0) (eqb (node_count t) 0) (ends_at (walk m t 32 0 0) (node_count t) (triangle_count m))

-- whether the tree keeps the rules
unfoldable pub tree_test : Mesh → Tree → Bool
tree_test m t =
    eqb (length t.boxes) (6 * node_count t)
    && eqb (length t.nodes) (stride * node_count t)
    && eqb (length t.items) (triangle_count m)
    && once_below (triangle_count m) t.items
    && root_test m t

-- what the walk takes for granted of the lent lists
pub record Fitting (m : Mesh) (t : Tree) : Type 0 where
  pub boxes : length t.boxes ≡ 6 * node_count t
  pub nodes : length t.nodes ≡ stride * node_count t
  pub items : Items m t.items
