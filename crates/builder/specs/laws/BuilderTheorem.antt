-- The tree that the builder makes of an accepted mesh keeps the tree rules: `layout_rules`. The tree is sound: its leaves have one to four
-- items, its paths are short since each split halves the items, and its boxes enclose what lies below. Where the lists of a sound tree
-- stand in the lent lists, there is a subtree as the rules want it.
use Rattle.std.specs.Prelude.{ℕ, zero, suc, ◌+◌, ◌-◌, ◌*◌, ◌/◌, ◌^◌, ◌≤◌, ◌<◌, ◌≡◌, true, Float, drop}
use native.Mathlib.Omega.{arith}
use Rattle.std.proofs.Math.Nat.{two-pow-succ}
use Rattle.std.proofs.Math.Path.{refl}
use Rattle.std.proofs.Common.{sym, ap, ◌∙◌, inl, inr, ⊎_elim, drop-drop, drop_at, get_or-drop, eq-eqb, ne_eqb}
use mathlib.Core.List.{List, [], ◌∷◌, ◌++◌, append_assoc, append-nil}
use Rattle.std.specs.Float.Ieee.{nan}
use Rattle.std.proofs.Math.ListN.{length, get_or, length-append, get_or-append}
use Rattle.keys.specs.Sorting.{count}
use Rattle.keys.specs.laws.SortingTheorems.{le_or_lt, eq_or_ne, all_at}
use Rattle.math.specs.declared.BoundingBox.{BoundingBox}
use Rattle.math.specs.Vectors.{at}
use Rattle.mesh_questions.specs.steps.Accepted.{Accepted}
use Rattle.mesh.specs.Mesh.{Mesh, triangle_count, own_box, numbers}
use Rattle.math.specs.BoundingBoxes.{encloses}
use Rattle.tree.specs.Tree.{Tree, node_count, box_at, box_of, start_of, count_of, item_at}
use Rattle.tree.specs.laws.NumberLaws.{length_numbers, numbers_once}
use Rattle.tree.specs.TreeRules.{Around, Subtree, leaf, inner, TreeRules}
use Rattle.builder.specs.Builder.{left_items, right_items, node_box, BoxTree, leaf_node, inner_node, tree_over, builder_tree, edges, size, box_list, item_list, node_list, lists, layout}
use Rattle.builder.specs.laws.BuilderLaws.{length_left, length_right, count_tree_over, length_tree_over, all_tree_over, tree_over_leaf, tree_over_inner, Holds, node_box_holds, length_box_list, length_node_list}

-- ---- built trees are sound

-- leaves have one to four items, paths have at most `depth` nodes, and each node's box encloses each own box below it
data Sound (m : Mesh) : ℕ → BoxTree → Type 0 where
  sound_leaf : {depth : ℕ} {b : BoundingBox} {items : List ℕ} → 1 ≤ length items → length items ≤ 4 → Holds m b items → Sound m (suc depth) (leaf_node b items)
  sound_inner : {depth : ℕ} {b : BoundingBox} {left right : BoxTree} → Sound m depth left → Sound m depth right → Holds m b (item_list left ++ item_list right) → Sound m (suc depth) (inner_node b left right)

-- at most four items
leaf_sound : (m : Mesh) (depth : ℕ) (items : List ℕ) → 1 ≤ length items → length items ≤ 4 → Sound m (suc depth) (tree_over m items)
leaf_sound m depth items some few = rw (tree_over_leaf m items few) (sound_leaf some few (node_box_holds m items))

-- more, whose halves make sound trees
inner_sound : (m : Mesh) (depth : ℕ) (items : List ℕ) → 4 < length items → Sound m depth (tree_over m (left_items m items)) → Sound m depth (tree_over m (right_items m items)) → Sound m (suc depth) (tree_over m items)
unfolding item_list
inner_sound m depth items many left right =
    let b = node_box m items in
    let holds = all_tree_over (λ t. encloses b (own_box m t) ≡ true) m items (node_box_holds m items) in
    rw (tree_over_inner m items many) (sound_inner left right (rw (tree_over_inner m items many) at holds))

-- d splits below one another are enough for 4 · 2^d items
tree_over_sound : (m : Mesh) (d : ℕ) (items : List ℕ) → 1 ≤ length items → length items ≤ 4 * 2 ^ d → Sound m (suc d) (tree_over m items)
tree_over_sound m zero items some few = leaf_sound m 0 items some few
tree_over_sound m (suc d) items some few =
    let left = length_left m items in
    let right = length_right m items in
    let double : 2 ^ suc d ≡ 2 ^ d + 2 ^ d = two-pow-succ d in
    ⊎_elim
    (λ four. leaf_sound m (suc d) items some four)
    (λ many. inner_sound m (suc d) items many (tree_over_sound m d (left_items m items) (omega arith) (omega arith)) (tree_over_sound m d (right_items m items) (omega arith) (omega arith)))
    (le_or_lt (length items) 4)

-- ---- a sound tree in the lent lists

-- the list from place k on, behind a part of known length
behind : {A : Type 0} (k j : ℕ) (l part rest : List A) → drop k l ≡ part ++ rest → length part ≡ j → drop (k + j) l ≡ rest
behind k j l part rest e h = sym (drop-drop j k l) ∙ ap (drop j) e ∙ drop_at part rest j h

-- element j of what begins at place k
from : {A : Type 0} (k j place : ℕ) (l part : List A) (d : A) → drop k l ≡ part → k + j ≡ place → get_or l place d ≡ get_or part j d
from k j place l part d e h = rw h at (sym (get_or-drop k l j d)) ∙ ap (λ x. get_or x j d) e

-- the lists of tree b stand in those of t from node n and item place i on
record Stands (t : Tree) (n i : ℕ) (b : BoxTree) : Type 0 where
  more_boxes : List Float
  more_nodes : List ℕ
  more_items : List ℕ
  boxes : drop (6 * n) t.boxes ≡ box_list b ++ more_boxes
  nodes : drop (2 * n) t.nodes ≡ node_list n i b ++ more_nodes
  items : drop i t.items ≡ item_list b ++ more_items

module _ (m : Mesh) (t : Tree) where
  -- the box of a node that stands there
  box_there : (n : ℕ) (b : BoundingBox) (rest : List Float) → drop (6 * n) t.boxes ≡ edges b ++ rest → box_of t n ≡ b
  unfolding box_at at
  box_there n b rest e =
      let here : (j place : ℕ) → 6 * n + j ≡ place → get_or t.boxes place nan ≡ get_or (edges b ++ rest) j nan = λ j place h. from (6 * n) j place t.boxes (edges b ++ rest) nan e h in
      rw (here 0 (6 * n) (omega arith), here 1 (6 * n + 1) refl, here 2 (6 * n + 2) refl, here 3 (6 * n + 3) refl, here 4 (6 * n + 3 + 1) (omega arith), here 5 (6 * n + 3 + 2) (omega arith))

  -- its start and count
  node_there : (n start number : ℕ) (rest : List ℕ) → drop (2 * n) t.nodes ≡ start ∷ number ∷ rest → (start_of t n ≡ start) × (count_of t n ≡ number)
  unfolding start_of count_of
  node_there n start number rest e =
      let node = start ∷ number ∷ rest in
      (from (2 * n) 0 (2 * n) t.nodes node 0 e (omega arith), from (2 * n) 1 (2 * n + 1) t.nodes node 0 e refl)

  -- a box that encloses what items name is around their places
  around_there : (n i : ℕ) (b : BoundingBox) (items rest : List ℕ) → box_of t n ≡ b → drop i t.items ≡ items ++ rest → Holds m b items → Around m t n i (i + length items)
  unfolding item_at
  around_there n i b items rest same e holds k low high =
      let item : get_or t.items k 0 ≡ get_or items (k - i) 0 = from i (k - i) k t.items (items ++ rest) 0 e (omega arith) ∙ get_or-append items rest 0 (k - i) (omega arith) in
      rw (same, item) (all_at (λ t. encloses b (own_box m t) ≡ true) items (k - i) holds (omega arith))

  -- the subtrees stand behind their node, left before right
  left_stands : (n i : ℕ) (b : BoundingBox) (left right : BoxTree) → Stands t n i (inner_node b left right) → Stands t (n + 1) i left
  unfolding box_list node_list item_list
  left_stands n i b left right s =
      let r = n + 1 + size left in
      let box_place : 6 * n + 6 ≡ 6 * (n + 1) = omega arith in
      let node_place : 2 * n + 2 ≡ 2 * (n + 1) = omega arith in
      record {
        more_boxes = box_list right ++ s.more_boxes;
        more_nodes = node_list r (i + length (item_list left)) right ++ s.more_nodes;
        more_items = item_list right ++ s.more_items;
        boxes = rw (box_place, append_assoc) at (behind (6 * n) 6 t.boxes (edges b) _ s.boxes refl);
        nodes = rw (node_place, append_assoc) at (behind (2 * n) 2 t.nodes (r ∷ 0 ∷ []) _ s.nodes refl);
        items = s.items ∙ append_assoc (item_list left) (item_list right) s.more_items;
      }

  right_stands : (n i : ℕ) (b : BoundingBox) (left right : BoxTree) → Stands t n i (inner_node b left right) → Stands t (n + 1 + size left) (i + length (item_list left)) right
  unfolding box_list node_list item_list left_stands
  right_stands n i b left right s =
      let l = left_stands n i b left right s in
      let box_place : 6 * (n + 1) + 6 * size left ≡ 6 * (n + 1 + size left) = omega arith in
      let node_place : 2 * (n + 1) + 2 * size left ≡ 2 * (n + 1 + size left) = omega arith in
      record {
        more_boxes = s.more_boxes;
        more_nodes = s.more_nodes;
        more_items = s.more_items;
        boxes = rw box_place at (behind (6 * (n + 1)) (6 * size left) t.boxes (box_list left) _ l.boxes (length_box_list left));
        nodes = rw node_place at (behind (2 * (n + 1)) (2 * size left) t.nodes (node_list (n + 1) i left) _ l.nodes (length_node_list (n + 1) i left));
        items = behind i (length (item_list left)) t.items (item_list left) _ l.items refl;
      }

  -- where a sound tree stands, there is a subtree
  subtree : {depth : ℕ} {b : BoxTree} → Sound m depth b → (n i : ℕ) → Stands t n i b → Subtree m t depth n i (n + size b) (i + length (item_list b))
  unfolding size box_list node_list item_list
  subtree (sound_leaf {b = b} {items = items} some few holds) n i s =
      let node = node_there n i (length items) s.more_nodes s.nodes in
      leaf {n = n} {item = i + length items} (rw node.1 some) (rw node.1 few) node.0 refl (rw node.1) (around_there n i b items s.more_items (box_there n b s.more_boxes s.boxes) s.items holds)
  subtree (sound_inner {depth = depth} {b = b} {left = left} {right = right} sound_left sound_right holds) n i s =
      let r = n + 1 + size left in
      let middle = i + length (item_list left) in
      let items = item_list left ++ item_list right in
      let node = node_there n r 0 _ s.nodes in
      let node_end : r + size right ≡ n + (1 + size left + size right) = omega arith in
      let item_end : middle + length (item_list right) ≡ i + length items = omega (arith, length-append (item_list left) (item_list right)) in
      let left_tree : Subtree m t depth (n + 1) i (start_of t n) middle = rw node.0 (subtree sound_left (n + 1) i (left_stands n i b left right s)) in
      let right_tree : Subtree m t depth (start_of t n) middle (n + (1 + size left + size right)) (i + length items) = rw (node.0, ← node_end, ← item_end) (subtree sound_right r middle (right_stands n i b left right s)) in
      inner node.1 left_tree right_tree (around_there n i b items s.more_items (box_there n b _ s.boxes) s.items holds)

-- a tree stands in its own lists
root_stands : (b : BoxTree) → Stands (lists b) 0 0 b
unfolding lists
root_stands b =
    record {
      more_boxes = [];
      more_nodes = [];
      more_items = [];
      boxes = sym (append-nil (box_list b));
      nodes = sym (append-nil (node_list 0 0 b));
      items = sym (append-nil (item_list b));
    }

-- ---- the rules

-- a sound tree over all triangles keeps the rules
sound_rules : (m : Mesh) (b : BoxTree) → Sound m 32 b → 0 < triangle_count m → length (item_list b) ≡ triangle_count m → ((k : ℕ) → k < triangle_count m → count k (item_list b) ≡ 1) → TreeRules m (lists b)
unfolding lists node_count
sound_rules m b sound some long once =
    let boxes = length_box_list b in
    let nodes = length_node_list 0 0 b in
    let node_end : 0 + size b ≡ length (node_list 0 0 b) / 2 = omega arith in
    let item_end : 0 + length (item_list b) ≡ triangle_count m = omega arith in
    record {
      boxes = omega arith;
      nodes = omega arith;
      items = long;
      once = once;
      tree = inr (some, rw (node_end, item_end) at (subtree m (lists b) sound 0 0 (root_stands b)));
    }

none_rules : (m : Mesh) → triangle_count m ≡ 0 → TreeRules m (record { boxes = []; nodes = []; items = [] })
unfolding node_count
none_rules m none =
    record { boxes = refl; nodes = refl; items = sym none; once = λ k h. absurd (omega arith); tree = inl (none, refl) }

-- 31 splits below one another are enough for 4 · 2^31 triangles
some_rules : (m : Mesh) → 0 < triangle_count m → triangle_count m ≤ 4 * 2 ^ 31 → TreeRules m (lists (builder_tree m))
unfolding builder_tree
some_rules m some few =
    let all = numbers 0 (triangle_count m) in
    let long = length_numbers 0 (triangle_count m) in
    let once : (k : ℕ) → k < triangle_count m → count k (item_list (tree_over m all)) ≡ 1 = λ k h. count_tree_over m all k ∙ numbers_once 0 (triangle_count m) k (omega arith) (omega arith) in
    sound_rules m (tree_over m all) (tree_over_sound m 31 all (omega arith) (omega arith)) some (length_tree_over m all ∙ long) once

few_rules : (m : Mesh) → triangle_count m ≤ 4 * 2 ^ 31 → TreeRules m (layout m)
unfolding layout
few_rules m few =
    ⊎_elim
    (λ none. rw (eq-eqb (triangle_count m) 0 none) (none_rules m none))
    (λ some. rw (ne_eqb (triangle_count m) 0 some) (some_rules m (omega arith) few))
    (eq_or_ne (triangle_count m) 0)

-- the tree that the builder makes of an accepted mesh keeps the tree rules
pub layout_rules : (m : Mesh) → Accepted m.coords m.corners m.ends → TreeRules m (layout m)
layout_rules m a = few_rules m (omega (arith, a.limit))
