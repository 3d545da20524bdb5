-- How the lists of a node are made up of those of its halves, and that there is room for these.
use Rattle.std.specs.Prelude.{ℕ, suc, ◌+◌, ◌*◌, ◌/◌, ◌≤◌, ◌<◌, ◌≡◌, refl, List, [], ◌∷◌, ◌++◌, Float, set, take, drop}
use Rattle.std.proofs.Math.Numerals.{add-one}
use Rattle.std.proofs.Common.{arith, ap, ◌∙◌, append_assoc, drop-drop, length-drop, take-append-drop, length-take-le, take_at, drop_at}
use Rattle.std.proofs.Math.Path.{sym}
use Rattle.std.proofs.Math.ListN.{length}
use Rattle.std.proofs.lemmas.List.Edits.{sets, sets-eq}
use Rattle.std.proofs.lemmas.List.{set_comm}
use Rattle.keys.specs.Sorting.{sorted, count, SameCounts}
use Rattle.keys.specs.laws.SortingTheorems.{length_sorted, count_sorted, sorted_permuted}
use Rattle.keys.specs.laws.Permutations.{count_append, length_permuted}
use Rattle.mesh.specs.Mesh.{Mesh}
use Rattle.mesh.specs.steps.Items.{Items}
use Rattle.builder.specs.Builder.{split_axis, node_box, edges, BoxTree, leaf_node, inner_node, tree_over, size, box_list, node_list, item_list}
use Rattle.builder.specs.laws.BuilderLaws.{tree_over_leaf, tree_over_inner, count_tree_over, length_tree_over, length_box_list, length_node_list}
use Rattle.bvh.specs.steps.Node.{Small}
use Rattle.bvh.specs.laws.NodeLaws.{items_permuted, items_take, items_drop}
use Rattle.bvh.specs.steps.Median.{Selected}
use Rattle.bvh.specs.laws.MedianTheorem.{left_half, right_half}
use Rattle.bvh.specs.declared.subtree.Subtree.{Subtree}
use Rattle.bvh.specs.steps.Subtree.{SubtreeRoom, Writes}

-- ---- stores one after another

module _ {A : Type 0} where
  -- those of two lists
  sets_append : (l : List A) (i : ℕ) (a b : List A) → sets l i (a ++ b) ≡ sets (sets l i a) (i + length a) b
  sets_append l i [] b =
      let none : i + 0 ≡ i = omega arith in
      rw none
  sets_append l i (x ∷ a) b =
      let next : i + suc (length a) ≡ suc i + length a = omega arith in
      sets_append (set l i x) (suc i) a b ∙ rw next

  -- a store before them may come first
  set_sets : (l : List A) (i j : ℕ) (x : A) (vs : List A) → i < j → set (sets l j vs) i x ≡ sets (set l i x) j vs
  set_sets l i j x [] h = refl
  set_sets l i j x (v ∷ vs) h = set_sets (set l j v) i (suc j) x vs (omega arith) ∙ rw (set_comm l j i v x (λ e. omega arith))

  -- so may stores that end before them
  sets_before : (l : List A) (i j : ℕ) (a b : List A) → i + length a ≤ j → sets (sets l j b) i a ≡ sets (sets l i a) j b
  sets_before l i j [] b h = refl
  sets_before l i j (x ∷ a) b h = rw (set_sets l i j x b (omega arith)) (sets_before (set l i x) (suc i) j a b (omega arith))

  -- stores of three lists, the first of which comes last
  node_stores : (l : List A) (i j k : ℕ) (a b c : List A) → j ≡ i + length a → k ≡ j + length b → sets (sets (sets l j b) k c) i a ≡ sets l i (a ++ (b ++ c))
  node_stores l i j k a b c e f =
      let last = sets_before (sets l j b) i k a c (omega arith) in
      let first = sets_before l i j a b (omega arith) in
      let parts : sets l i (a ++ (b ++ c)) ≡ sets (sets (sets l i a) j b) k c = rw (f, e) (sets_append l i a (b ++ c) ∙ sets_append (sets l i a) (i + length a) b c) in
      last ∙ (rw first (sym parts))

  -- a list copied over a part of another
  pub sets_copied : (l : List A) (i : ℕ) (vs : List A) → i + length vs ≤ length l → take i l ++ (vs ++ drop (length vs) (drop i l)) ≡ sets l i vs
  sets_copied l i vs h = rw (drop-drop (length vs) i l) (sym (sets-eq vs l i h ∙ append_assoc (take i l) vs _))

-- ---- a node

size_some : (t : BoxTree) → 1 ≤ size t
unfolding size
size_some (leaf_node b items) = omega arith
size_some (inner_node b left right) = omega arith

-- every subtree has a node
pub room_one : {m : Mesh} {boxes nodes : ℕ} {items : List ℕ} {n i : ℕ} → SubtreeRoom m boxes nodes items n i → (6 * n + 6 ≤ boxes) × (2 * n + 2 ≤ nodes)
room_one {m} {items = items} room =
    let some = size_some (tree_over m (sorted items)) in
    (omega (arith, room.for_boxes), omega (arith, room.for_nodes))

-- a leaf
pub leaf_writes : (m : Mesh) (boxes : List Float) (nodes items : List ℕ) (n i : ℕ) (result : Subtree) → length items ≤ 4 → result.end ≡ n + 1 → result.bounds ≡ node_box m (sorted items)
    → Writes m boxes nodes items n i result (sets boxes (6 * n) (edges result.bounds)) (set (set nodes (2 * n) i) (2 * n + 1) (length items)) (sorted items)
leaf_writes m boxes nodes items n i result few end bounds =
    let l = sorted items in
    let tree = tree_over_leaf m l (rw (length_sorted items) few) in
    record {
      end = rw tree (unfold size in end);
      bounds = bounds;
      boxes = rw (tree, bounds) (unfold box_list in refl);
      nodes = rw tree (unfold node_list in rw (length_sorted items, add-one (2 * n)));
      items = rw tree (unfold item_list in refl);
    }

-- an inner node: the items, lent as ₀, after the median split
pub record Halved (m : Mesh) (axis boxes nodes : ℕ) (items₀ items : List ℕ) (n i : ℕ) : Type 0 where
  pub room : SubtreeRoom m boxes nodes items₀ n i
  pub many : 4 < length items₀
  pub axis_is : axis ≡ split_axis m (sorted items₀)
  pub split : Selected m axis (length items₀ / 2) items₀ items
  pub small : Small items

module _ {m : Mesh} {axis boxes nodes : ℕ} {items₀ items : List ℕ} {n i : ℕ} (h : Halved m axis boxes nodes items₀ items n i) where
  abbrev half : ℕ
  half = length items₀ / 2

  abbrev left : BoxTree
  left = tree_over m (sorted (take half items))

  abbrev right : BoxTree
  right = tree_over m (sorted (drop half items))

  long : length items ≡ length items₀
  long = length_permuted items items₀ h.split.same

  all_items : Items m items
  all_items = items_permuted m items₀ h.room.given items h.split.same

  tree : tree_over m (sorted items₀) ≡ inner_node (node_box m (sorted items₀)) left right
  tree =
      tree_over_inner m (sorted items₀) (rw (length_sorted items₀) h.many)
      ∙ rw (left_half m axis items₀ items h.small h.axis_is h.split, right_half m axis items₀ items h.small h.axis_is h.split)

  sizes : size (tree_over m (sorted items₀)) ≡ 1 + size left + size right
  sizes = rw tree (unfold size in refl)

  -- the room for the left half, in lists of the same lengths
  pub left_room : SubtreeRoom m boxes nodes (take half items) (n + 1) i
  left_room =
      record {
        given = items_take m items all_items half;
        some = omega (arith, h.many, length-take-le half items (omega (arith, long)));
        for_boxes = omega (arith, h.room.for_boxes, sizes);
        for_nodes = omega (arith, h.room.for_nodes, sizes);
        few_nodes = omega (arith, h.room.few_nodes, sizes);
        few_items = omega (arith, h.room.few_items, length-take-le half items (omega (arith, long)));
      }

  -- the room for the right half, from the node that is free then
  pub right_room : (next : ℕ) → next ≡ n + 1 + size left → SubtreeRoom m boxes nodes (drop half items) next (i + half)
  right_room next g =
      record {
        given = items_drop m items all_items half;
        some = omega (arith, h.many, length-drop half items, long);
        for_boxes = omega (arith, h.room.for_boxes, sizes, g);
        for_nodes = omega (arith, h.room.for_nodes, sizes, g);
        few_nodes = omega (arith, h.room.few_nodes, sizes, g);
        few_items = omega (arith, h.room.few_items, length-drop half items, long);
      }

  module _ {boxes₀ boxes₁ boxes₂ : List Float} {nodes₀ nodes₁ nodes₂ items₁ items₂ : List ℕ} {first second : Subtree}
      (wrote : Writes m boxes₀ nodes₀ (take half items) (n + 1) i first boxes₁ nodes₁ items₁)
      (writes : Writes m boxes₁ nodes₁ (drop half items) first.end (i + half) second boxes₂ nodes₂ items₂) where
    -- the written items of a half are that half in some order
    half_items : (part : List ℕ) → SameCounts (item_list (tree_over m (sorted part))) part
    half_items part k = count_tree_over m (sorted part) k ∙ count_sorted k part

    pub written_same : SameCounts (items₁ ++ items₂) items₀
    written_same k =
        let left_same : count k items₁ ≡ count k (take half items) = rw wrote.items (half_items (take half items) k) in
        let right_same : count k items₂ ≡ count k (drop half items) = rw writes.items (half_items (drop half items) k) in
        let whole : count k (take half items ++ drop half items) ≡ count k items₀ = rw (take-append-drop half items) (h.split.same k) in
        omega (arith, count_append k items₁ items₂, left_same, right_same, count_append k (take half items) (drop half items), whole)

    pub written_items : Items m (items₁ ++ items₂)
    written_items = items_permuted m items₀ h.room.given (items₁ ++ items₂) written_same

    long_first : length items₁ ≡ half
    long_first = rw wrote.items (length_tree_over m (sorted (take half items)) ∙ (length_sorted (take half items) ∙ length-take-le half items (omega (arith, long))))

    -- the halves of the written items have the boxes of the subtrees
    pub first_bounds : first.bounds ≡ node_box m (sorted (take half (items₁ ++ items₂)))
    first_bounds = wrote.bounds ∙ ap (node_box m) (sym (rw (take_at items₁ items₂ half long_first, wrote.items) (sorted_permuted _ _ (half_items (take half items)))))

    pub second_bounds : second.bounds ≡ node_box m (sorted (drop half (items₁ ++ items₂)))
    second_bounds = writes.bounds ∙ ap (node_box m) (sym (rw (drop_at items₁ items₂ half long_first, writes.items) (sorted_permuted _ _ (half_items (drop half items)))))

    -- and their places
    pub halves_places : (0 < half) × (half < length (items₁ ++ items₂))
    halves_places = (omega (arith, h.many), omega (arith, h.many, length_permuted (items₁ ++ items₂) items₀ written_same))

    pub small_node : first.end < 4294967296
    small_node = omega (arith, h.room.few_nodes, sizes, wrote.end)

    module _ (result : Subtree) (bounds : result.bounds ≡ node_box m (sorted (items₁ ++ items₂))) (end : result.end ≡ second.end) where
      own : result.bounds ≡ node_box m (sorted items₀)
      own = bounds ∙ ap (node_box m) (sorted_permuted (items₁ ++ items₂) items₀ written_same)

      boxes_written : sets boxes₂ (6 * n) (edges result.bounds) ≡ sets boxes₀ (6 * n) (box_list (inner_node (node_box m (sorted items₀)) left right))
      unfolding box_list
      boxes_written =
          let at_right : 6 * first.end ≡ 6 * (n + 1) + length (box_list left) = omega (arith, wrote.end, length_box_list left) in
          rw (own, writes.boxes, wrote.boxes) (node_stores boxes₀ (6 * n) (6 * (n + 1)) (6 * first.end) (edges (node_box m (sorted items₀))) (box_list left) (box_list right) (omega arith) at_right)

      nodes_written : set (set nodes₂ (2 * n) first.end) (2 * n + 1) 0 ≡ sets nodes₀ (2 * n) (node_list n i (inner_node (node_box m (sorted items₀)) left right))
      unfolding node_list
      nodes_written =
          let r = n + 1 + size left in
          let below = node_list (n + 1) i left in
          let at_right : 2 * r ≡ 2 * (n + 1) + length below = omega (arith, length_node_list (n + 1) i left) in
          let long_left : length (item_list left) ≡ half = sym (ap length wrote.items) ∙ long_first in
          rw (writes.nodes, wrote.nodes, wrote.end, add-one (2 * n), long_left) (node_stores nodes₀ (2 * n) (2 * (n + 1)) (2 * r) (r ∷ 0 ∷ []) below (node_list r (i + half) right) (omega arith) at_right)

      -- both halves
      pub inner_writes : Writes m boxes₀ nodes₀ items₀ n i result (sets boxes₂ (6 * n) (edges result.bounds)) (set (set nodes₂ (2 * n) first.end) (2 * n + 1) 0) (items₁ ++ items₂)
      inner_writes =
          record {
            end = omega (arith, end, wrote.end, writes.end, sizes);
            bounds = own;
            boxes = rw tree boxes_written;
            nodes = rw tree nodes_written;
            items = rw (tree, wrote.items, writes.items) (unfold item_list in refl);
          }
