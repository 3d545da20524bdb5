-- A lent tree (document 01, Tree rules): for each node six floats in `boxes` and two numbers in `nodes`, and the triangle numbers in `items`. Definitions only.
use Rattle.std.specs.Prelude.{ℕ, ◌+◌, ◌*◌, ◌/◌, List, [], ◌∷◌, Float, length, get_or}
use Rattle.math.specs.declared.BoundingBox.{BoundingBox}
use Rattle.math.specs.Vectors.{at}
use Rattle.math.specs.BoundingBoxes.{box}
use Rattle.tree.specs.declared.Node.{Node}

-- the lent lists of a tree
pub record Tree : Type 0 where
  pub boxes : List Float
  pub nodes : List ℕ
  pub items : List ℕ

abbrev pub tree : List Float → List ℕ → List ℕ → Tree
tree boxes nodes items = record { boxes = boxes; nodes = nodes; items = items }

-- ---- the layout of a node

-- how many numbers a node has in `nodes`: its start and its count
abbrev pub stride : ℕ
stride = 2

-- node n in such a list
abbrev pub node_at : List ℕ → ℕ → Node
node_at nodes n = record { start = get_or nodes (stride * n) 0; count = get_or nodes (stride * n + 1) 0 }

-- the numbers of a node in such a list
abbrev pub node_numbers : Node → List ℕ
node_numbers node = node.start ∷ node.count ∷ []

-- ---- a tree's nodes

-- how many nodes the tree has
unfoldable pub node_count : Tree → ℕ
node_count t = length t.nodes / stride

-- the box of node n in a list of six floats a node
unfoldable pub box_at : List Float → ℕ → BoundingBox
box_at boxes n = box (at boxes (6 * n)) (at boxes (6 * n + 3))

-- the box of node n
abbrev pub box_of : Tree → ℕ → BoundingBox
box_of t n = box_at t.boxes n

-- the start of node n
unfoldable pub start_of : Tree → ℕ → ℕ
start_of t n = (node_at t.nodes n).start

-- the count of node n
unfoldable pub count_of : Tree → ℕ → ℕ
count_of t n = (node_at t.nodes n).count

-- the triangle at item place k
unfoldable pub item_at : Tree → ℕ → ℕ
item_at t k = get_or t.items k 0
