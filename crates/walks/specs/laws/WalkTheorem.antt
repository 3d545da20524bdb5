-- The walks find what the plain scan finds: over a tree that keeps the tree rules, a triangle whose own box passes is never passed by,
-- since the box of each node above it encloses its own box.
use Prim.Native.Nat.{ℕ, zero, suc, ◌+◌, ◌-◌, ◌≤◌, ◌<◌}
use Rattle.std.proofs.Common.{arith, sym, ap, ◌∙◌, eq-eqb, ne_eqb}
use Rattle.std.specs.Prelude.{◌≡◌, Bool, true, false, List, [], ◌∷◌, length}
use Rattle.std.proofs.Math.Path.{refl}
use Rattle.std.proofs.Math.Logic.{⊎_elim}
use Rattle.keys.specs.Sorting.{SameCounts}
use Rattle.keys.specs.laws.SortingTheorems.{by_test}
use Rattle.math.specs.declared.BoundingBox.{BoundingBox}
use Rattle.math.specs.BoundingBoxes.{encloses}
use Rattle.mesh.specs.Mesh.{Mesh, triangle_count, own_box, all_triangles}
use Rattle.tree.specs.Tree.{Tree, node_count, box_of, start_of, count_of, item_at}
use Rattle.tree.specs.TreeRules.{Around, Subtree, leaf, inner, TreeRules}
use Rattle.tree.specs.laws.NumberLaws.{items_permuted, items_below}
use Rattle.scan.specs.Scan.{which}
use Rattle.scan.specs.laws.ScanLaws.{which_nothing, which_append, which_permuted}
use Rattle.walks.specs.Walks.{items_from, all_visits, reached}
use Rattle.walks.specs.laws.WalkLaws.{clash, below, below_out, below_leaf, below_inner, items_from_append, items_from_all}

-- ---- subtrees

-- a subtree has a node and an item place
pub subtree_grows : (m : Mesh) (t : Tree) (depth n i n' i' : ℕ) → Subtree m t depth n i n' i' → (0 < depth) × (n < n') × (i < i')
subtree_grows m t _ n i n' i' (leaf some few start nodes places around) = (omega arith, omega arith, omega arith)
subtree_grows m t _ n i n' i' (inner {depth} {middle = middle} none left right around) =
    let first = subtree_grows m t depth (n + 1) i (start_of t n) middle left in
    let second = subtree_grows m t depth (start_of t n) middle n' i' right in
    (omega arith, omega (arith, first.1, second.1), omega (arith, first.2, second.2))

-- a list of length 0
no_items : (l : List ℕ) → length l ≡ 0 → l ≡ []
no_items [] e = refl
no_items (x ∷ l) e = absurd (omega arith)

module _ (m : Mesh) (t : Tree) (passes : BoundingBox → Bool) (test : ℕ → Bool)
    (own : (k : ℕ) → test k ≡ true → passes (own_box m k) ≡ true)
    (larger : (b : BoundingBox) (k : ℕ) → k < triangle_count m → encloses b (own_box m k) ≡ true → passes (own_box m k) ≡ true → passes b ≡ true)
    (rules : TreeRules m t) where
  -- the test holds for no triangle below a node whose box does not pass
  none_below : (n i i' places k : ℕ) → Around m t n i i' → passes (box_of t n) ≡ false → i ≤ k → k + places ≤ i' → i' ≤ triangle_count m → which test (items_from t.items k places) ≡ []
  unfolding which items_from item_at
  none_below n i i' zero k around out from to all = refl
  none_below n i i' (suc places) k around out from to all =
      by_test
      (test (item_at t k))
      (λ holds. clash (sym (larger (box_of t n) (item_at t k) (items_below m t rules k (omega arith)) (around k from (omega arith)) (own (item_at t k) holds)) ∙ out))
      (λ fails. rw fails (none_below n i i' places (k + 1) around out (omega arith) (omega arith) all))

  -- below a node the test holds for what a walk comes to exactly as for the item places of its subtree
  which_below : (depth n i n' i' : ℕ) → Subtree m t depth n i n' i' → i' ≤ triangle_count m → which test (below t passes depth n) ≡ which test (items_from t.items i (i' - i))
  which_below _ n i n' i' (leaf {depth} some few start nodes places around) all =
      let count : i' - i ≡ count_of t n = omega arith in
      by_test
      (passes (box_of t n))
      (λ e. rw (below_leaf t passes (suc depth) n (omega arith) e (omega arith), start, count))
      (λ e. rw (below_out t passes (suc depth) n e, which_nothing test) (sym (none_below n i i' (i' - i) i around e (omega arith) (omega arith) all)))
  which_below _ n i n' i' (inner {depth} {middle = middle} none left right around) all =
      let first = subtree_grows m t depth (n + 1) i (start_of t n) middle left in
      let second = subtree_grows m t depth (start_of t n) middle n' i' right in
      let parts : i' - i ≡ (middle - i) + (i' - middle) = omega (arith, first.2, second.2) in
      let there : i + (middle - i) ≡ middle = omega (arith, first.2) in
      let items = items_from t.items i (middle - i) in
      by_test
      (passes (box_of t n))
      (λ e.
      rw (
        below_inner t passes depth n e none,
        which_append test (below t passes depth (n + 1)) (below t passes depth (start_of t n)),
        which_below depth (n + 1) i (start_of t n) middle left (omega (arith, second.2)),
        which_below depth (start_of t n) middle n' i' right all,
        parts,
        items_from_append t.items i (middle - i) (i' - middle),
        there,
        which_append test items (items_from t.items middle (i' - middle)),
      ))
      (λ e. rw (below_out t passes (suc depth) n e, which_nothing test) (sym (none_below n i i' (i' - i) i around e (omega arith) (omega (arith, first.2, second.2)) all)))

-- a walk that nothing ends
module _ (m : Mesh) (t : Tree) (passes : BoundingBox → Bool) (test : ℕ → Bool)
    (own : (k : ℕ) → test k ≡ true → passes (own_box m k) ≡ true)
    (larger : (b : BoundingBox) (k : ℕ) → k < triangle_count m → encloses b (own_box m k) ≡ true → passes (own_box m k) ≡ true → passes b ≡ true)
    (rules : TreeRules m t) where
  abbrev walked : List ℕ
  walked = reached (all_visits t passes)

  which_walked : which test walked ≡ which test t.items
  unfolding all_visits
  which_walked = ⊎_elim none some rules.tree
    where
      none : (triangle_count m ≡ 0) × (node_count t ≡ 0) → which test (reached (all_visits t passes)) ≡ which test t.items
      none h = rw (eq-eqb (node_count t) 0 h.1, no_items t.items (rules.items ∙ h.0)) (unfold reached in refl)

      some : (0 < triangle_count m) × Subtree m t 32 0 0 (node_count t) (triangle_count m) → which test (reached (all_visits t passes)) ≡ which test t.items
      some h =
          let grows = subtree_grows m t 32 0 0 (node_count t) (triangle_count m) h.1 in
          rw (ne_eqb (node_count t) 0 (λ z. omega (arith, grows.1)))
          (which_below m t passes test own larger rules 32 0 0 (node_count t) (triangle_count m) h.1 (omega arith) ∙ ap (which test) (items_from_all t.items 0 (triangle_count m - 0) (omega (arith, rules.items))))

  -- of what a walk comes to the test holds for the same triangles as of all
  pub which_walk : SameCounts (which test walked) (which test (all_triangles m))
  which_walk = rw which_walked (which_permuted test t.items (all_triangles m) (items_permuted m t rules))
