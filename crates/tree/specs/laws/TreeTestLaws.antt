-- The laws by which the code's walk computes the test.
use Prim.Native.Nat.{ℕ, zero, suc, ◌+◌, ◌-◌, ◌≤◌, ◌<◌}
use Rattle.std.specs.Prelude.{Some, None, ◌≡◌, refl, length, get_or, take, drop}
use native.Mathlib.Omega.{arith}
use Rattle.std.proofs.Common.{◌∙◌, add-one, drop-cons}
use borrow.Author.Tests.{eq-eqb, ne_eqb, lt-ltb, le-ltb}
use Rattle.math.specs.declared.BoundingBox.{BoundingBox}
use Rattle.mesh.specs.Mesh.{Mesh, own_box, join_all, node_box}
use Rattle.math.specs.BoundingBoxes.{join}
use Rattle.tree.specs.Tree.{Tree, node_count, start_of, count_of, item_at}
use Rattle.tree.specs.steps.TreeTest.{join_from, join_items, walked, boxed_by, boxed, with_left, right_child, leaf_walk, walk}

-- the join of item places is that of the triangles there
joined_from : (m : Mesh) (t : Tree) (b : BoundingBox) (i places : ℕ) → i + places ≤ length t.items → join_from m t b i places ≡ join_all m b (take places (drop i t.items))
unfolding join_from join_all item_at
joined_from m t b i zero h = refl
joined_from m t b i (suc places) h =
    let next = joined_from m t (join b (own_box m (get_or t.items i 0))) (i + 1) places (omega arith) in
    rw (drop-cons t.items i 0 (omega arith), ← add-one i) next

pub joined_items : (m : Mesh) (t : Tree) (i places : ℕ) → 0 < places → i + places ≤ length t.items → join_items m t i places ≡ node_box m (take places (drop i t.items))
unfolding join_items node_box item_at
joined_items m t i zero some h = absurd (omega arith)
joined_items m t i (suc places) some h =
    let fewer : suc places - 1 ≡ places = omega arith in
    let next = joined_from m t (own_box m (get_or t.items i 0)) (i + 1) places (omega arith) in
    rw (fewer, drop-cons t.items i 0 (omega arith), ← add-one i) next

-- a node that the tree does not have
pub walk_out : (m : Mesh) (t : Tree) (depth n i : ℕ) → node_count t ≤ n → walk m t depth n i ≡ None
unfolding walk
walk_out m t zero n i h = refl
walk_out m t (suc depth) n i h = rw (le-ltb n (node_count t) h)

-- a leaf
pub walk_leaf : (m : Mesh) (t : Tree) (depth n i : ℕ) → 0 < depth → n < node_count t → 0 < count_of t n → walk m t depth n i ≡ leaf_walk m t n i
unfolding walk
walk_leaf m t zero n i some h any = absurd (omega arith)
walk_leaf m t (suc depth) n i some h any =
    let not_none : count_of t n ≡ 0 → ⊥ = λ z. omega arith in
    rw (lt-ltb n (node_count t) h, ne_eqb (count_of t n) 0 not_none)

module _ (m : Mesh) (t : Tree) (depth n i : ℕ) (some : 0 < depth) (h : n < node_count t) (none : count_of t n ≡ 0) where
  inner_walk : (d : ℕ) → 0 < d → walk m t d n i ≡ boxed t n (right_child (walk m t (d - 1)) (start_of t n) (walk m t (d - 1) (n + 1) i))
  unfolding walk
  inner_walk zero some = absurd (omega arith)
  inner_walk (suc d) some =
      let fewer : suc d - 1 ≡ d = omega arith in
      rw (lt-ltb n (node_count t) h, eq-eqb (count_of t n) 0 none, fewer)

  -- an inner node with a fault below its left child
  pub left_faults : walk m t (depth - 1) (n + 1) i ≡ None → walk m t depth n i ≡ None
  unfolding right_child boxed_by
  left_faults e = inner_walk depth some ∙ rw e

  -- an inner node whose right child is not where its left subtree ends
  pub left_ends_elsewhere : (node item : ℕ) (joined : BoundingBox) → walk m t (depth - 1) (n + 1) i ≡ Some (walked node item joined) → (node ≡ start_of t n → ⊥) → walk m t depth n i ≡ None
  unfolding right_child boxed_by
  left_ends_elsewhere node item joined e apart = inner_walk depth some ∙ rw (e, ne_eqb node (start_of t n) apart)

  -- an inner node whose right child is
  pub right_follows : (node item : ℕ) (joined : BoundingBox) → walk m t (depth - 1) (n + 1) i ≡ Some (walked node item joined) → node ≡ start_of t n → walk m t depth n i ≡ boxed t n (with_left joined (walk m t (depth - 1) node item))
  unfolding right_child
  right_follows node item joined e there = inner_walk depth some ∙ rw (e, eq-eqb node (start_of t n) there)
