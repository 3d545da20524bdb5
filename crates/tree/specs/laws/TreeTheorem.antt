-- The test and the rules agree: `sound` and `complete`. What a walk joins is enclosed by exactly the boxes that enclose each own box
-- below (`Says`).
use Prim.Native.Nat.{ℕ, zero, suc, ◌+◌, ◌-◌, ◌*◌, ◌≤◌, ◌<◌}
use Rattle.std.proofs.Common.{eq-or-lt_of_le, sym, ◌∙◌, inl, inr, true≢false}
use native.Mathlib.Omega.{arith}
use Rattle.std.proofs.Math.Path.{◌≡◌, refl, ap, subst}
use Rattle.std.specs.Prelude.{Option, Some, None, ◌⊎◌, Bool, ◌&&◌, List, ltb, length}
use Rattle.std.proofs.Math.Logic.{⊎_elim}
use Rattle.std.proofs.Math.Bool.{true, false, cond, and-true, and_assoc}
use Rattle.std.proofs.Math.Dec.{eqb, leb}
use borrow.Author.Tests.{eqb-true, eqb-false, eq-eqb, ne_eqb, leb-true, le-leb, lt-ltb}
use Rattle.refusal.specs.laws.VerdictLaws.{both}
use Rattle.keys.specs.Sorting.{count}
use Rattle.tree.specs.steps.Counting.{once_below}
use Rattle.math.specs.declared.BoundingBox.{BoundingBox}
use Rattle.mesh.specs.Mesh.{Mesh, triangle_count, own_box}
use Rattle.math.specs.BoundingBoxes.{encloses, join}
use Rattle.tree.specs.declared.Walked.{Walked}
use Rattle.tree.specs.Tree.{Tree, node_count, box_of, start_of, count_of, item_at}
use Rattle.tree.specs.TreeRules.{Around, Subtree, leaf, inner, TreeRules}
use Rattle.tree.specs.steps.TreeTest.{walked, join_from, join_items, boxed_by, boxed, with_left, right_child, leaf_walk, walk, ends_at, root_test, tree_test}
use Rattle.tree.specs.laws.JoinLaws.{NumberBox, encloses_join, join_numbers, own_box_numbers}

below : (j k : ℕ) → j < suc k → j ≤ k
below j k h = omega arith

positive : (k : ℕ) → eqb k 0 ≡ false → 1 ≤ k
positive zero e = absurd (eqb-false 0 0 e refl)
positive (suc k) e = omega arith

-- what is found is found part by part
same_walked : (w : Walked) (node item : ℕ) (joined : BoundingBox) → Some w ≡ Some (walked node item joined) → (w.node ≡ node) × (w.item ≡ item) × (w.joined ≡ joined)
same_walked w node item joined e =
    let same : w ≡ walked node item joined = cc in
    (ap (λ (v : Walked). v.node) same, ap (λ (v : Walked). v.item) same, ap (λ (v : Walked). v.joined) same)

module _ (m : Mesh) (t : Tree) where
  -- ---- boxes around item places

  -- whether box b encloses the own boxes of the triangles at `places` item places from i on
  unfoldable around : BoundingBox → ℕ → ℕ → Bool
  around b i zero = true
  around b i (suc places) = encloses b (own_box m (item_at t i)) && around b (i + 1) places

  around_sound : (b : BoundingBox) (i places : ℕ) → around b i places ≡ true → (k : ℕ) → i ≤ k → k < i + places → encloses b (own_box m (item_at t k)) ≡ true
  unfolding around
  around_sound b i zero e k from to = absurd (omega arith)
  around_sound b i (suc places) e k from to =
      let parts = both (encloses b (own_box m (item_at t i))) (around b (i + 1) places) e in
      ⊎_elim
      (λ same. rw same at parts.0)
      (λ later. around_sound b (i + 1) places parts.1 k (omega arith) (omega arith))
      (eq-or-lt_of_le from)

  around_complete : (b : BoundingBox) (i places : ℕ) → ((k : ℕ) → i ≤ k → k < i + places → encloses b (own_box m (item_at t k)) ≡ true) → around b i places ≡ true
  unfolding around
  around_complete b i zero a = refl
  around_complete b i (suc places) a =
      rw (a i (omega arith) (omega arith)) (around_complete b (i + 1) places (λ k from to. a k (omega arith) (omega arith)))

  -- places one behind the other
  around_append : (b : BoundingBox) (i p q : ℕ) → around b i (p + q) ≡ (around b i p && around b (i + p) q)
  unfolding around
  around_append b i zero q =
      let none : 0 + q ≡ q = omega arith in
      let here : i + 0 ≡ i = omega arith in
      rw (none, here)
  around_append b i (suc p) q =
      let more : suc p + q ≡ suc (p + q) = omega arith in
      let next : i + suc p ≡ i + 1 + p = omega arith in
      rw (more, next, around_append b (i + 1) p q, and_assoc)

  -- ---- joins

  -- a box encloses a join of item places exactly when it encloses each
  join_from_encloses : (c b : BoundingBox) (i places : ℕ) → NumberBox b → encloses c (join_from m t b i places) ≡ (encloses c b && around c i places)
  unfolding join_from around
  join_from_encloses c b i zero n = rw and-true
  join_from_encloses c b i (suc places) n =
      let own = own_box m (item_at t i) in
      rw (join_from_encloses c (join b own) (i + 1) places (join_numbers own n), encloses_join c b own n (own_box_numbers m (item_at t i)), and_assoc)

  join_from_numbers : (b : BoundingBox) (i places : ℕ) → NumberBox b → NumberBox (join_from m t b i places)
  unfolding join_from
  join_from_numbers b i zero n = n
  join_from_numbers b i (suc places) n = join_from_numbers (join b (own_box m (item_at t i))) (i + 1) places (join_numbers (own_box m (item_at t i)) n)

  join_items_encloses : (c : BoundingBox) (i places : ℕ) → 1 ≤ places → encloses c (join_items m t i places) ≡ around c i places
  unfolding join_items around
  join_items_encloses c i zero h = absurd (omega arith)
  join_items_encloses c i (suc places) h =
      let fewer : suc places - 1 ≡ places = omega arith in
      rw fewer (join_from_encloses c (own_box m (item_at t i)) (i + 1) places (own_box_numbers m (item_at t i)))

  join_items_numbers : (i places : ℕ) → NumberBox (join_items m t i places)
  unfolding join_items
  join_items_numbers i places = join_from_numbers (own_box m (item_at t i)) (i + 1) (places - 1) (own_box_numbers m (item_at t i))

  -- ---- the walk

  -- what a walk that ends says: the nodes are a subtree, and a box encloses what was joined exactly when it encloses each own box below
  record Says (depth n i node item : ℕ) (joined : BoundingBox) : Type 0 where
    tree : Subtree m t depth n i node item
    some : i < item
    numbers : NumberBox joined
    encloses_all : (c : BoundingBox) → encloses c joined ≡ around c i (item - i)

  -- what a tested box says
  boxed_ends : (n : ℕ) (w : Option Walked) (node item : ℕ) (joined : BoundingBox) → boxed t n w ≡ Some (walked node item joined) → (w ≡ Some (walked node item joined)) × (encloses (box_of t n) joined ≡ true)
  unfolding boxed_by
  boxed_ends n None node item joined e = (cc, cc)
  boxed_ends n (Some w) node item joined e = tested (encloses (box_of t n) w.joined) refl e
    where
      tested : (d : Bool) → encloses (box_of t n) w.joined ≡ d → cond d (Some w) None ≡ Some (walked node item joined) → (Some w ≡ Some (walked node item joined)) × (encloses (box_of t n) joined ≡ true)
      tested true within e = (e, rw (same_walked w node item joined e).2 at within)
      tested false without e = (cc, cc)

  -- what a right child says
  record Children (next : ℕ → ℕ → Option Walked) (start : ℕ) (w : Option Walked) (node item : ℕ) (joined : BoundingBox) : Type 0 where
    middle : ℕ
    left : BoundingBox
    right : BoundingBox
    first : w ≡ Some (walked start middle left)
    second : next start middle ≡ Some (walked node item right)
    both_joined : joined ≡ join left right

  with_left_ends : (left : BoundingBox) (w : Option Walked) (node item : ℕ) (joined : BoundingBox) → with_left left w ≡ Some (walked node item joined)
      → (right : BoundingBox) × (w ≡ Some (walked node item right)) × (joined ≡ join left right)
  unfolding with_left
  with_left_ends left None node item joined e = (left, cc, cc)
  with_left_ends left (Some w) node item joined e =
      let same = same_walked (walked w.node w.item (join left w.joined)) node item joined e in
      (w.joined, rw (same.0, same.1), sym same.2)

  right_ends : (next : ℕ → ℕ → Option Walked) (start : ℕ) (w : Option Walked) (node item : ℕ) (joined : BoundingBox) → right_child next start w ≡ Some (walked node item joined) → Children next start w node item joined
  unfolding right_child
  right_ends next start None node item joined e = let z : ◌≡◌ {A = ℕ} 0 1 = cc in absurd (omega arith)
  right_ends next start (Some w) node item joined e = met (eqb w.node start) refl e
    where
      met : (c : Bool) → eqb w.node start ≡ c → cond c (with_left w.joined (next w.node w.item)) None ≡ Some (walked node item joined) → Children next start (Some w) node item joined
      met true there e =
          let same = eqb-true w.node start there in
          let found = with_left_ends w.joined (next w.node w.item) node item joined e in
          record {
            middle = w.item;
            left = w.joined;
            right = found.0;
            first = ap (λ (k : ℕ). Some (walked k w.item w.joined)) same;
            second = subst (λ (k : ℕ). next k w.item ≡ Some (walked node item found.0)) same found.1;
            both_joined = found.2;
          }
      met false apart e = let z : ◌≡◌ {A = ℕ} 0 1 = cc in absurd (omega arith)

  -- ---- sound

  leaf_says : (depth n i node item : ℕ) (joined : BoundingBox) → eqb (count_of t n) 0 ≡ false → (b : Bool)
      → leb (count_of t n) 4 && eqb (start_of t n) i && leb (i + count_of t n) (length t.items) ≡ b
      → cond b (boxed t n (Some (walked (n + 1) (i + count_of t n) (join_items m t i (count_of t n))))) None ≡ Some (walked node item joined)
      → Says (suc depth) n i node item joined
  leaf_says depth n i node item joined some false test e = let z : ◌≡◌ {A = ℕ} 0 1 = cc in absurd (omega arith)
  leaf_says depth n i node item joined some true test e =
      let outer = both (leb (count_of t n) 4 && eqb (start_of t n) i) (leb (i + count_of t n) (length t.items)) test in
      let parts = both (leb (count_of t n) 4) (eqb (start_of t n) i) outer.0 in
      let here = boxed_ends n (Some (walked (n + 1) (i + count_of t n) (join_items m t i (count_of t n)))) node item joined e in
      let same = same_walked (walked (n + 1) (i + count_of t n) (join_items m t i (count_of t n))) node item joined here.0 in
      let next : n + 1 ≡ node = same.0 in
      let end : i + count_of t n ≡ item = same.1 in
      let box : join_items m t i (count_of t n) ≡ joined = same.2 in
      let any = positive (count_of t n) some in
      let long : item - i ≡ count_of t n = omega arith in
      let all : (c : BoundingBox) → encloses c joined ≡ around c i (item - i) = λ c. rw (← box, long) (join_items_encloses c i (count_of t n) any) in
      let whole : i + (item - i) ≡ item = omega arith in
      record {
        tree = leaf any (leb-true _ _ parts.0) (eqb-true _ _ parts.1) (sym next) (sym end) (rw whole at (around_sound (box_of t n) i (item - i) (sym (all (box_of t n)) ∙ here.1)));
        some = omega arith;
        numbers = rw box at (join_items_numbers i (count_of t n));
        encloses_all = all;
      }

  -- what two children's walks joined is enclosed by a box around all that lies below
  children_encloses : (depth n i middle node item : ℕ) (l r b : BoundingBox) → Says depth (n + 1) i (start_of t n) middle l → Says depth (start_of t n) middle node item r → encloses b (join l r) ≡ around b i (item - i)
  children_encloses depth n i middle node item l r b left right =
      let first = left.some in
      let second = right.some in
      let split : item - i ≡ middle - i + (item - middle) = omega arith in
      let seam : i + (middle - i) ≡ middle = omega arith in
      rw (encloses_join b l r left.numbers right.numbers, left.encloses_all b, right.encloses_all b, split, around_append b i (middle - i) (item - middle), seam)

  inner_says : (depth n i node item : ℕ) (joined : BoundingBox)
      → ((n i node item : ℕ) (joined : BoundingBox) → walk m t depth n i ≡ Some (walked node item joined) → Says depth n i node item joined)
      → eqb (count_of t n) 0 ≡ true
      → boxed t n (right_child (walk m t depth) (start_of t n) (walk m t depth (n + 1) i)) ≡ Some (walked node item joined)
      → Says (suc depth) n i node item joined
  inner_says depth n i node item joined below none e =
      let here = boxed_ends n _ node item joined e in
      let c = right_ends (walk m t depth) (start_of t n) _ node item joined here.0 in
      let left = below (n + 1) i (start_of t n) c.middle c.left c.first in
      let right = below (start_of t n) c.middle node item c.right c.second in
      let first = left.some in
      let second = right.some in
      let all : (b : BoundingBox) → encloses b joined ≡ around b i (item - i) = λ b. rw c.both_joined (children_encloses depth n i c.middle node item c.left c.right b left right) in
      let whole : i + (item - i) ≡ item = omega arith in
      record {
        tree = inner (eqb-true _ _ none) left.tree right.tree (rw whole at (around_sound (box_of t n) i (item - i) (sym (all (box_of t n)) ∙ here.1)));
        some = omega arith;
        numbers = rw c.both_joined (join_numbers c.right left.numbers);
        encloses_all = all;
      }

  node_says : (depth n i node item : ℕ) (joined : BoundingBox)
      → ((n i node item : ℕ) (joined : BoundingBox) → walk m t depth n i ≡ Some (walked node item joined) → Says depth n i node item joined)
      → (a b : Bool) → eqb (count_of t n) 0 ≡ b
      → cond a (cond b (boxed t n (right_child (walk m t depth) (start_of t n) (walk m t depth (n + 1) i))) (leaf_walk m t n i)) None
      ≡ Some (walked node item joined)
      → Says (suc depth) n i node item joined
  unfolding leaf_walk
  node_says depth n i node item joined below false b test e = let z : ◌≡◌ {A = ℕ} 0 1 = cc in absurd (omega arith)
  node_says depth n i node item joined below true true none e = inner_says depth n i node item joined below none e
  node_says depth n i node item joined below true false some e =
      leaf_says depth n i node item joined some (leb (count_of t n) 4 && eqb (start_of t n) i && leb (i + count_of t n) (length t.items)) refl e

  -- a walk that ends without a fault has seen a subtree
  walk_sound : (depth n i node item : ℕ) (joined : BoundingBox) → walk m t depth n i ≡ Some (walked node item joined) → Says depth n i node item joined
  unfolding walk
  walk_sound zero n i node item joined e = let z : ◌≡◌ {A = ℕ} 0 1 = cc in absurd (omega arith)
  walk_sound (suc depth) n i node item joined e =
      node_says depth n i node item joined (walk_sound depth) (ltb n (node_count t)) (eqb (count_of t n) 0) refl e

  -- ---- complete

  -- a subtree has a node and an item
  subtree_grows : {depth n i node item : ℕ} → Subtree m t depth n i node item → (n < node) × (i < item)
  subtree_grows (leaf any few start node item a) = (omega arith, omega arith)
  subtree_grows (inner none left right a) =
      let l = subtree_grows left in
      let r = subtree_grows right in
      (omega (arith, l.0, r.0), omega (arith, l.1, r.1))

  -- a box around all that lies below passes its test
  boxed_passes : (n i node item : ℕ) (joined : BoundingBox) → i ≤ item → Around m t n i item → encloses (box_of t n) joined ≡ around (box_of t n) i (item - i) → boxed t n (Some (walked node item joined)) ≡ Some (walked node item joined)
  unfolding boxed_by
  boxed_passes n i node item joined h a e =
      let whole : i + (item - i) ≡ item = omega arith in
      let all : (k : ℕ) → i ≤ k → k < i + (item - i) → encloses (box_of t n) (own_box m (item_at t k)) ≡ true = rw whole a in
      rw (e, around_complete (box_of t n) i (item - i) all)

  children_walked : (next : ℕ → ℕ → Option Walked) (start middle node item : ℕ) (l r : BoundingBox) (w : Option Walked)
      → w ≡ Some (walked start middle l) → next start middle ≡ Some (walked node item r)
      → right_child next start w ≡ Some (walked node item (join l r))
  unfolding right_child with_left
  children_walked next start middle node item l r w e f = rw (e, eq-eqb start start refl, f)

  inner_complete : (depth n i middle node item : ℕ) (l r : BoundingBox) → n < node_count t → count_of t n ≡ 0
      → walk m t depth (n + 1) i ≡ Some (walked (start_of t n) middle l) → walk m t depth (start_of t n) middle ≡ Some (walked node item r) → i ≤ item
      → Around m t n i item → walk m t (suc depth) n i ≡ Some (walked node item (join l r))
  unfolding walk
  inner_complete depth n i middle node item l r h none first second le a =
      let all = children_encloses depth n i middle node item l r (box_of t n) (walk_sound depth (n + 1) i (start_of t n) middle l first) (walk_sound depth (start_of t n) middle node item r second) in
      rw
      (lt-ltb n (node_count t) h, eq-eqb (count_of t n) 0 none, children_walked (walk m t depth) (start_of t n) middle node item l r (walk m t depth (n + 1) i) first second)
      (boxed_passes n i node item (join l r) le a all)

  leaf_complete : (depth n i node item : ℕ) → n < node_count t → 1 ≤ count_of t n → count_of t n ≤ 4 → start_of t n ≡ i → node ≡ n + 1
      → item ≡ i + count_of t n → item ≤ length t.items → Around m t n i item
      → walk m t (suc depth) n i ≡ Some (walked node item (join_items m t i (count_of t n)))
  unfolding walk leaf_walk
  leaf_complete depth n i node item h any few start next end items a =
      let long : item - i ≡ count_of t n = omega arith in
      let same : encloses (box_of t n) (join_items m t i (count_of t n)) ≡ around (box_of t n) i (item - i) = rw long (join_items_encloses (box_of t n) i (count_of t n) any) in
      let none : count_of t n ≡ 0 → ⊥ = λ z. omega arith in
      rw
      (lt-ltb n (node_count t) h, ne_eqb (count_of t n) 0 none, le-leb (count_of t n) 4 few, eq-eqb (start_of t n) i start, le-leb (i + count_of t n) (length t.items) (omega arith), ← next, ← end)
      (boxed_passes n i node item (join_items m t i (count_of t n)) (omega arith) a same)

  -- a subtree within the tree's nodes and items is walked without a fault
  walk_complete : {depth n i node item : ℕ} → Subtree m t depth n i node item → node ≤ node_count t → item ≤ length t.items → (joined : BoundingBox) × (walk m t depth n i ≡ Some (walked node item joined))
  walk_complete (leaf {depth} {n} {i} {node} {item} any few start next end a) nodes items =
      (join_items m t i (count_of t n), leaf_complete depth n i node item (omega arith) any few start next end items a)
  walk_complete (inner {depth} {n} {i} {middle} {node} {item} none left right a) nodes items =
      let l = subtree_grows left in
      let r = subtree_grows right in
      let first = walk_complete left (omega (arith, r.0)) (omega (arith, r.1)) in
      let second = walk_complete right nodes items in
      (join first.0 second.0, inner_complete depth n i middle node item first.0 second.0 (omega (arith, l.0, r.0)) none first.1 second.1 (omega (arith, l.1, r.1)) a)

-- ---- the rules

-- where the test says so, each number below k stands once in the list
pub once_sound : (k : ℕ) (items : List ℕ) → once_below k items ≡ true → (j : ℕ) → j < k → count j items ≡ 1
unfolding once_below
once_sound zero items e j h = absurd (omega arith)
once_sound (suc k) items e j h =
    let parts = both (eqb (count k items) 1) (once_below k items) e in
    ⊎_elim (λ same. rw same (eqb-true _ _ parts.0)) (λ less. once_sound k items parts.1 j less) (eq-or-lt_of_le (below j k h))

once_complete : (k : ℕ) (items : List ℕ) → ((j : ℕ) → j < k → count j items ≡ 1) → once_below k items ≡ true
unfolding once_below
once_complete zero items h = refl
once_complete (suc k) items h = rw (eq-eqb _ _ (h k (omega arith))) (once_complete k items (λ j less. h j (omega arith)))

ends_sound : (w : Option Walked) (n i : ℕ) → ends_at w n i ≡ true → (joined : BoundingBox) × (w ≡ Some (walked n i joined))
unfolding ends_at
ends_sound None n i e = absurd (true≢false (sym e))
ends_sound (Some w) n i e =
    let parts = both (eqb w.node n) (eqb w.item i) e in
    (w.joined, rw (← eqb-true w.node n parts.0, ← eqb-true w.item i parts.1))

-- the nodes: none, or those of the root's subtree
root_sound : (m : Mesh) (t : Tree) (b : Bool) → eqb (triangle_count m) 0 ≡ b
    → cond b (eqb (node_count t) 0) (ends_at (walk m t 32 0 0) (node_count t) (triangle_count m)) ≡ true
    → ((triangle_count m ≡ 0) × (node_count t ≡ 0)) ⊎ ((0 < triangle_count m) × Subtree m t 32 0 0 (node_count t) (triangle_count m))
root_sound m t true none e = inl (eqb-true _ _ none, eqb-true _ _ e)
root_sound m t false some e =
    let end = ends_sound _ _ _ e in
    inr (positive (triangle_count m) some, (walk_sound m t 32 0 0 (node_count t) (triangle_count m) end.0 end.1).tree)

root_complete : (m : Mesh) (t : Tree) → length t.items ≡ triangle_count m → ((triangle_count m ≡ 0) × (node_count t ≡ 0)) ⊎ ((0 < triangle_count m) × Subtree m t 32 0 0 (node_count t) (triangle_count m)) → root_test m t ≡ true
unfolding root_test ends_at
root_complete m t long (inl none) = rw (eq-eqb _ _ none.0, eq-eqb _ _ none.1)
root_complete m t long (inr some) =
    let not_none : triangle_count m ≡ 0 → ⊥ = λ z. omega (arith, some.0) in
    let end = walk_complete m t some.1 (omega arith) (omega arith) in
    rw (ne_eqb (triangle_count m) 0 not_none, end.1, eq-eqb (node_count t) (node_count t) refl, eq-eqb (triangle_count m) (triangle_count m) refl)

-- a tree that passes the test keeps the rules
pub sound : (m : Mesh) (t : Tree) → tree_test m t ≡ true → TreeRules m t
unfolding tree_test root_test
sound m t e =
    let last = both _ (root_test m t) e in
    let third = both _ (once_below (triangle_count m) t.items) last.0 in
    let second = both _ (eqb (length t.items) (triangle_count m)) third.0 in
    let first = both (eqb (length t.boxes) (6 * node_count t)) (eqb (length t.nodes) (2 * node_count t)) second.0 in
    record {
      boxes = eqb-true _ _ first.0;
      nodes = eqb-true _ _ first.1;
      items = eqb-true _ _ second.1;
      once = once_sound (triangle_count m) t.items third.1;
      tree = root_sound m t (eqb (triangle_count m) 0) refl last.1;
    }

-- a tree that keeps the rules passes the test
pub complete : (m : Mesh) (t : Tree) → TreeRules m t → tree_test m t ≡ true
unfolding tree_test
complete m t r =
    rw
    (eq-eqb (length t.boxes) (6 * node_count t) r.boxes, eq-eqb (length t.nodes) (2 * node_count t) r.nodes, eq-eqb (length t.items) (triangle_count m) r.items, once_complete (triangle_count m) t.items r.once)
    (root_complete m t r.items r.tree)
