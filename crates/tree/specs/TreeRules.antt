-- Document 01's tree rules, as a proposition. Definitions only.
use Rattle.std.specs.Prelude.{ℕ, suc, ◌+◌, ◌*◌, ◌≤◌, ◌<◌, ◌≡◌, ◌⊎◌, true, length}
use Rattle.keys.specs.Sorting.{count}
use Rattle.mesh.specs.Mesh.{Mesh, triangle_count, own_box}
use Rattle.math.specs.BoundingBoxes.{encloses}
use Rattle.tree.specs.Tree.{Tree, stride, node_count, box_of, start_of, count_of, item_at}

-- the box of node n encloses the own box of each triangle at the item places from i to item
abbrev pub Around : Mesh → Tree → ℕ → ℕ → ℕ → Type 0
Around m t n i item = (k : ℕ) → i ≤ k → k < item → encloses (box_of t n) (own_box m (item_at t k)) ≡ true

-- The nodes from n to node are the subtree of node n, its leaves cover the item places from i to item, its paths have at most `depth` nodes,
-- and each node's box encloses each triangle box below it.
pub data Subtree (m : Mesh) (t : Tree) : (depth n i node item : ℕ) → Type 0 where
  -- a leaf has count 1 to 4, and its start is its first item place
  leaf : {depth n i node item : ℕ}
      → 1 ≤ count_of t n
      → count_of t n ≤ 4
      → start_of t n ≡ i
      → node ≡ n + 1
      → item ≡ i + count_of t n
      → Around m t n i item
      → Subtree m t (suc depth) n i node item
  -- count 0 marks an inner node: its left child is the next node, its right child is its start, left before right
  inner : {depth n i middle node item : ℕ}
      → count_of t n ≡ 0
      → Subtree m t depth (n + 1) i (start_of t n) middle
      → Subtree m t depth (start_of t n) middle node item
      → Around m t n i item
      → Subtree m t (suc depth) n i node item

-- the rules
pub record TreeRules (m : Mesh) (t : Tree) : Type 0 where
  -- the lists have exactly the lengths that the tree needs; `node_count` is half of `nodes`, rounded down, so no number is left over there
  pub boxes : length t.boxes ≡ 6 * node_count t
  pub nodes : length t.nodes ≡ stride * node_count t
  pub items : length t.items ≡ triangle_count m
  -- items name each triangle once
  pub once : (k : ℕ) → k < triangle_count m → count k t.items ≡ 1
  -- no nodes exactly when there are no triangles; else node 0 is the root of all nodes, over all item places, with paths of at most 32 nodes
  pub tree : ((triangle_count m ≡ 0) × (node_count t ≡ 0)) ⊎ ((0 < triangle_count m) × Subtree m t 32 0 0 (node_count t) (triangle_count m))
