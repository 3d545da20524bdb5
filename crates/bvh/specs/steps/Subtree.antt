-- The subtree over some items (document 01's builder rule): the room that it takes, and what is written into the lent lists. Definitions only.
use Rattle.std.specs.Prelude.{ℕ, ◌+◌, ◌*◌, ◌≤◌, ◌<◌, ◌≡◌, List, Float, length}
use Rattle.std.proofs.lemmas.List.Edits.{sets}
use Rattle.keys.specs.Sorting.{sorted}
use Rattle.mesh.specs.Mesh.{Mesh}
use Rattle.mesh.specs.steps.Items.{Items}
use Rattle.tree.specs.Tree.{stride}
use Rattle.builder.specs.Builder.{node_box, tree_over, size, box_list, node_list, item_list}
use Rattle.bvh.specs.declared.subtree.Subtree.{Subtree}

-- there is room for the subtree over items in lists of these lengths, from node n and item place i on, and its numbers are small
pub record SubtreeRoom (m : Mesh) (boxes nodes : ℕ) (items : List ℕ) (n i : ℕ) : Type 0 where
  pub given : Items m items
  pub some : 0 < length items
  pub for_boxes : 6 * (n + size (tree_over m (sorted items))) ≤ boxes
  pub for_nodes : stride * (n + size (tree_over m (sorted items))) ≤ nodes
  pub few_nodes : n + size (tree_over m (sorted items)) ≤ 262144
  pub few_items : i + length items ≤ 262144

-- what `build_node` promises: the next free node, the root's box, and of each buffer, lent as ₀ and left as ₁, the subtree from node n and item place i on
pub record Writes (m : Mesh) (boxes₀ : List Float) (nodes₀ items₀ : List ℕ) (n i : ℕ) (result : Subtree) (boxes₁ : List Float) (nodes₁ items₁ : List ℕ) : Type 0 where
  pub end : result.end ≡ n + size (tree_over m (sorted items₀))
  pub bounds : result.bounds ≡ node_box m (sorted items₀)
  pub boxes : boxes₁ ≡ sets boxes₀ (6 * n) (box_list (tree_over m (sorted items₀)))
  pub nodes : nodes₁ ≡ sets nodes₀ (stride * n) (node_list n i (tree_over m (sorted items₀)))
  pub items : items₁ ≡ item_list (tree_over m (sorted items₀))
