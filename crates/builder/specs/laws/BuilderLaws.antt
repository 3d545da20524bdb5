-- The laws of the builder's definitions: the two halves have the items of the whole, a tree over items has those items, it is a leaf or
-- an inner node by their number, a node's box encloses the own box of each of its triangles, the lists have their lengths,
-- and centres are floats of the format.
use Prim.Native.Nat.{ℕ, zero, suc, ◌+◌, ◌-◌, ◌*◌, ◌/◌, ◌≤◌, ◌<◌}
use Rattle.std.proofs.Common.{arith, ◌∙◌, length-take, length-drop, length-append, take-append-drop, le-leb}
use Rattle.std.specs.Prelude.{◌≡◌, Bool, true, false, cond, T, eqb, Float, take, drop}
use Rattle.std.proofs.Math.Path.{refl, sym}
use Rattle.std.proofs.Math.Logic.{⊎_elim}
use mathlib.Core.List.{List, [], ◌∷◌, ◌++◌}
use Rattle.std.specs.Float.{binary64}
use Rattle.std.specs.Float.Ieee.{fits}
use Rattle.std.specs.Float.Ieee.Fits.{mul-fits}
use Rattle.std.proofs.Math.ListN.{length}
use Rattle.std.proofs.lemmas.Bool.{lt-leb}
use Rattle.refusal.specs.laws.VerdictLaws.{both}
use Rattle.keys.specs.Sorting.{count}
use Rattle.lent.specs.Every.{Every}
use Rattle.keys.specs.laws.SortingTheorems.{le_or_lt, all_sorted_by, sorted_by_sum, length_sorted_by}
use Rattle.keys.specs.laws.Permutations.{all_append}
use Rattle.math.specs.declared.BoundingBox.{BoundingBox}
use Rattle.math.specs.Vectors as Vectors
use Rattle.math.specs.Vectors.{component}
use Rattle.mesh.specs.Mesh.{Mesh, own_box, join_all, node_box}
use Rattle.math.specs.BoundingBoxes.{encloses, join, center}
use Rattle.mesh.specs.MeshBoxes.{triangle_center}
use Rattle.builder.specs.Builder.{center_of, center_on, by_center, left_items, right_items, BoxTree, leaf_node, inner_node, build, tree_over, size, box_list, item_list, node_list}
use Rattle.tree.specs.laws.JoinLaws.{NumberBox, encloses_join, encloses_self, join_numbers, own_box_numbers}

-- ---- the halves

pub length_left : (m : Mesh) (items : List ℕ) → length (left_items m items) ≡ length items / 2
unfolding left_items by_center
length_left m items = simp (length_sorted_by, length-take) (omega arith)

pub length_right : (m : Mesh) (items : List ℕ) → length (right_items m items) ≡ length items - length items / 2
unfolding right_items by_center
length_right m items = simp (length_sorted_by, length-drop)

-- what adds up over the elements
module _ (F : List ℕ → ℕ) (w : ℕ → ℕ) (none : F [] ≡ 0) (step : (x : ℕ) (l : List ℕ) → F (x ∷ l) ≡ w x + F l) where
  sum_append : (a b : List ℕ) → F (a ++ b) ≡ F a + F b
  sum_append [] b = omega (arith, none)
  sum_append (x ∷ a) b = omega (arith, step x (a ++ b), step x a, sum_append a b)

  module _ (m : Mesh) where
    -- of both halves it is that of the whole
    sum_halves : (items : List ℕ) → F (left_items m items) + F (right_items m items) ≡ F items
    unfolding left_items right_items by_center
    sum_halves items =
        let all = by_center m items in
        let half = length items / 2 in
        let whole : F (take half all) + F (drop half all) ≡ F all = sym (sum_append (take half all) (drop half all)) ∙ rw (take-append-drop half all) in
        let sorting : F all ≡ F items = sorted_by_sum F w step _ items in
        omega (arith, sorted_by_sum F w step (λ x. x) (take half all), sorted_by_sum F w step (λ x. x) (drop half all))

    -- the leaves together have that of the items
    sum_build : (fuel : ℕ) (items : List ℕ) → F (item_list (build m fuel items)) ≡ F items
    unfolding build item_list
    sum_build zero items = refl
    sum_build (suc fuel) items =
        let left = left_items m items in
        let right = right_items m items in
        ⊎_elim
        (λ few. rw (le-leb (length items) 4 few))
        (λ many. rw (lt-leb (length items) 4 many) (omega (arith, sum_append (item_list (build m fuel left)) (item_list (build m fuel right)), sum_build fuel left, sum_build fuel right, sum_halves items)))
        (le_or_lt (length items) 4)

-- a tree over items names each triangle as many times as they do
pub count_tree_over : (m : Mesh) (items : List ℕ) (k : ℕ) → count k (item_list (tree_over m items)) ≡ count k items
unfolding count tree_over
count_tree_over m items k = sum_build (count k) (λ x. cond (eqb k x) 1 0) refl (λ x l. refl) m (length items) items

pub length_tree_over : (m : Mesh) (items : List ℕ) → length (item_list (tree_over m items)) ≡ length items
unfolding tree_over
length_tree_over m items = sum_build (λ l. length l) (λ x. 1) refl (λ x l. omega arith) m (length items) items

-- ---- what holds of every item

module _ (P : ℕ → Type 0) where
  all_parts : (i : ℕ) (l : List ℕ) → Every P l → Every P (take i l) × Every P (drop i l)
  all_parts zero l p = (tt, p)
  all_parts (suc i) [] p = (tt, tt)
  all_parts (suc i) (x ∷ l) p = let rest = all_parts i l p.1 in ((p.0, rest.0), rest.1)

  module _ (m : Mesh) where
    all_halves : (items : List ℕ) → Every P items → Every P (left_items m items) × Every P (right_items m items)
    unfolding left_items right_items by_center
    all_halves items p =
        let parts = all_parts (length items / 2) (by_center m items) (all_sorted_by P _ items p) in
        (all_sorted_by P (λ x. x) _ parts.0, all_sorted_by P (λ x. x) _ parts.1)

    all_build : (fuel : ℕ) (items : List ℕ) → Every P items → Every P (item_list (build m fuel items))
    unfolding build item_list
    all_build zero items p = p
    all_build (suc fuel) items p =
        let halves = all_halves items p in
        ⊎_elim
        (λ few. rw (le-leb (length items) 4 few) p)
        (λ many. rw (lt-leb (length items) 4 many) (all_append P _ _ (all_build fuel _ halves.0) (all_build fuel _ halves.1)))
        (le_or_lt (length items) 4)

    -- what holds of every item holds of what the tree over them names
    pub all_tree_over : (items : List ℕ) → Every P items → Every P (item_list (tree_over m items))
    unfolding tree_over
    all_tree_over items p = all_build (length items) items p

-- ---- leaves and inner nodes

module _ (m : Mesh) where
  build_leaf : (fuel : ℕ) (items : List ℕ) → length items ≤ 4 → build m fuel items ≡ leaf_node (node_box m items) items
  unfolding build
  build_leaf zero items few = refl
  build_leaf (suc fuel) items few = rw (le-leb (length items) 4 few)

  build_inner : (fuel : ℕ) (items : List ℕ) → 4 < length items → build m (suc fuel) items ≡ inner_node (node_box m items) (build m fuel (left_items m items)) (build m fuel (right_items m items))
  unfolding build
  build_inner fuel items many = rw (lt-leb (length items) 4 many)

  -- enough fuel is enough
  build_enough : (f g : ℕ) (items : List ℕ) → length items ≤ f → length items ≤ g → build m f items ≡ build m g items
  build_enough zero g items p q = build_leaf 0 items (omega arith) ∙ sym (build_leaf g items (omega arith))
  build_enough (suc f) zero items p q = build_leaf (suc f) items (omega arith) ∙ sym (build_leaf 0 items (omega arith))
  build_enough (suc f) (suc g) items p q =
      let left = length_left m items in
      let right = length_right m items in
      ⊎_elim
      (λ few. build_leaf (suc f) items few ∙ sym (build_leaf (suc g) items few))
      (λ many. rw (build_inner f items many, build_inner g items many, build_enough f g (left_items m items) (omega arith) (omega arith), build_enough f g (right_items m items) (omega arith) (omega arith)))
      (le_or_lt (length items) 4)

  -- at most four items make a leaf
  pub tree_over_leaf : (items : List ℕ) → length items ≤ 4 → tree_over m items ≡ leaf_node (node_box m items) items
  unfolding tree_over
  tree_over_leaf items few = build_leaf (length items) items few

  -- more are split
  pub tree_over_inner : (items : List ℕ) → 4 < length items → tree_over m items ≡ inner_node (node_box m items) (tree_over m (left_items m items)) (tree_over m (right_items m items))
  unfolding tree_over
  tree_over_inner [] many = absurd (omega arith)
  tree_over_inner (x ∷ rest) many =
      let items = x ∷ rest in
      let left = length_left m items in
      let right = length_right m items in
      build_inner (length rest) items many
      ∙ rw (
        build_enough (length rest) (length (left_items m items)) (left_items m items) (omega arith) (omega arith),
        build_enough (length rest) (length (right_items m items)) (right_items m items) (omega arith) (omega arith),
      )

-- ---- boxes

-- the own box of each triangle lies in box b
abbrev pub Holds : Mesh → BoundingBox → List ℕ → Type 0
Holds m b items = Every (λ t. encloses b (own_box m t) ≡ true) items

join_all_numbers : (m : Mesh) (b : BoundingBox) (items : List ℕ) → NumberBox b → NumberBox (join_all m b items)
unfolding join_all
join_all_numbers m b [] p = p
join_all_numbers m b (t ∷ rest) p = join_all_numbers m (join b (own_box m t)) rest (join_numbers (own_box m t) p)

-- a box that encloses boxes joined encloses each of them
join_all_holds : (m : Mesh) (n b : BoundingBox) (items : List ℕ) → NumberBox b → encloses n (join_all m b items) ≡ true → (encloses n b ≡ true) × Holds m n items
unfolding join_all
join_all_holds m n b [] p e = (e, tt)
join_all_holds m n b (t ∷ rest) p e =
    let next = join_all_holds m n (join b (own_box m t)) rest (join_numbers (own_box m t) p) e in
    let here = both (encloses n b) (encloses n (own_box m t)) (sym (encloses_join n b (own_box m t) p (own_box_numbers m t)) ∙ next.0) in
    (here.0, (here.1, next.1))

-- a node's box encloses the own box of each of its triangles
pub node_box_holds : (m : Mesh) (items : List ℕ) → Holds m (node_box m items) items
unfolding node_box
node_box_holds m [] = tt
node_box_holds m (t ∷ rest) =
    let first = own_box_numbers m t in
    let all = join_all m (own_box m t) rest in
    join_all_holds m all (own_box m t) rest first (encloses_self all (join_all_numbers m (own_box m t) rest first))

-- ---- the lengths of the lists

pub length_box_list : (b : BoxTree) → length (box_list b) ≡ 6 * size b
unfolding box_list size
length_box_list (leaf_node b items) = refl
length_box_list (inner_node b left right) = omega (arith, length-append (box_list left) (box_list right), length_box_list left, length_box_list right)

pub length_node_list : (n i : ℕ) (b : BoxTree) → length (node_list n i b) ≡ 2 * size b
unfolding node_list size
length_node_list n i (leaf_node b items) = refl
length_node_list n i (inner_node b left right) =
    let r = n + 1 + size left in
    let j = i + length (item_list left) in
    omega (arith, length-append (node_list (n + 1) i left) (node_list r j right), length_node_list (n + 1) i left, length_node_list r j right)

-- ---- centres

-- what holds of each of three numbers holds of the one that is chosen
pub each : (P : Float → Type 0) (s t : Bool) (x y z : Float) → P x → P y → P z → P (cond s x (cond t y z))
each P true t x y z p q r = p
each P false true x y z p q r = q
each P false false x y z p q r = r

-- a centre is a product, so it is of the format
pub center_fits : (m : Mesh) (axis t : ℕ) → T (fits binary64 (center_on m axis t))
unfolding center_on center_of triangle_center center Vectors.mul component
center_fits m axis t = each (λ x. T (fits binary64 x)) (eqb axis 0) (eqb axis 1) _ _ _ (mul-fits binary64 _ _) (mul-fits binary64 _ _) (mul-fits binary64 _ _)
