-- The laws of one step of a walk.
use Prim.Native.Nat.{ℕ, zero, suc, ◌+◌, ◌-◌, ◌≤◌, ◌<◌}
use Rattle.std.proofs.Common.{le_refl, add-one, arith, sym, subst, ◌∙◌, length-set, get_or-set_same, get_or-set_other, eq-eqb, ne_eqb, length-drop, get_or-take, get_or-drop}
use Rattle.std.specs.Prelude.{◌≡◌, Bool, true, false, cond, length, set}
use Rattle.std.proofs.Math.Path.{refl, ap}
use mathlib.Core.List.{List, [], ◌∷◌, ◌++◌, map, append_assoc}
use Rattle.std.proofs.lemmas.List.{length-take-le}
use Rattle.std.proofs.Math.ListN.{get_or, take, drop}
use Rattle.math.specs.declared.BoundingBox.{BoundingBox}
use Rattle.math.specs.BoundingBoxes.{is_empty}
use Rattle.mesh.specs.steps.Items.{Items}
use Rattle.mesh.specs.Mesh.{Mesh, triangle_count}
use Rattle.tree.specs.Tree.{Tree, node_count, box_of, start_of, count_of}
use Rattle.tree.specs.TreeRules.{Subtree, leaf, inner}
use Rattle.walks.specs.declared.nodes.Place.{Place}
use Rattle.walks.specs.Walks.{node, item, items_from, visits, reached}
use Rattle.walks.specs.steps.Leaves.{Ready}
use Rattle.walks.specs.laws.WalkLaws.{items_from_part, below, below_out, below_leaf, below_inner}
use Rattle.walks.specs.laws.WalkTheorem.{subtree_grows}
use Rattle.walks.specs.laws.ReadyLaws.{node_some, ready_items}
use Rattle.walks.specs.steps.Stacks.{Chain, none, more, Walking, pending_from, pending, Onward, NextLeaf, place, popped, advanced, pushed}

-- ---- where a walk is

-- ---- the steps of a walk

popped_last : (s : List ℕ) (n k : ℕ) → popped s (place n (suc k)) ≡ place (get_or s k 0) k
popped_last s n k =
    let last : suc k - 1 ≡ k = omega arith in
    ap (λ j. place (get_or s j 0) j) last

module _ (m : Mesh) (t : Tree) (passes : BoundingBox → Bool) where
  -- a subtree may be taken for a deeper one
  deeper : (depth n i n' i' : ℕ) → Subtree m t depth n i n' i' → Subtree m t (suc depth) n i n' i'
  deeper _ n i n' i' (leaf some few start nodes places around) = leaf some few start nodes places around
  deeper _ n i n' i' (inner {depth} {middle = middle} count left right around) =
      inner count (deeper depth (n + 1) i (start_of t n) middle left) (deeper depth (start_of t n) middle n' i' right) around

  visits_leaf : (depth n : ℕ) → 0 < count_of t n → visits t passes (suc depth) n ≡ node n ∷ cond (passes (box_of t n)) (map item (items_from t.items (start_of t n) (count_of t n))) []
  unfolding visits
  visits_leaf depth n some = rw (ne_eqb (count_of t n) 0 (λ z. omega arith))

  visits_inner : (depth n : ℕ) → count_of t n ≡ 0 → visits t passes (suc depth) n ≡ node n ∷ cond (passes (box_of t n)) (visits t passes depth (n + 1) ++ visits t passes depth (start_of t n)) []
  unfolding visits
  visits_inner depth n count = rw (eq-eqb (count_of t n) 0 count)

  -- a walk comes to the same in it
  visits_deeper : (depth n i n' i' : ℕ) → Subtree m t depth n i n' i' → visits t passes (suc depth) n ≡ visits t passes depth n
  visits_deeper _ n i n' i' (leaf {depth} some few start nodes places around) = visits_leaf (suc depth) n some ∙ sym (visits_leaf depth n some)
  visits_deeper _ n i n' i' (inner {depth} {middle = middle} count left right around) =
      rw (visits_inner (suc depth) n count, visits_inner depth n count, visits_deeper depth (n + 1) i (start_of t n) middle left, visits_deeper depth (start_of t n) middle n' i' right)

  -- the two subtrees of an inner node
  record Halves (depth n i n' i' : ℕ) : Type 0 where
    pub less : ℕ
    pub middle : ℕ
    pub deep : depth ≡ suc less
    pub left : Subtree m t less (n + 1) i (start_of t n) middle
    pub right : Subtree m t less (start_of t n) middle n' i'

  halves : (depth n i n' i' : ℕ) → Subtree m t depth n i n' i' → count_of t n ≡ 0 → Halves depth n i n' i'
  halves _ n i n' i' (leaf some few start nodes places around) e = absurd (omega arith)
  halves _ n i n' i' (inner {depth} {middle = middle} count left right around) e = record { less = depth; middle = middle; deep = refl; left = left; right = right }

  -- the item places of a leaf
  leaf_places : (depth n i n' i' : ℕ) → Subtree m t depth n i n' i' → 0 < count_of t n → (start_of t n ≡ i) × (i' ≡ i + count_of t n) × (count_of t n ≤ 4)
  leaf_places _ n i n' i' (leaf some few start nodes places around) h = (start, places, few)
  leaf_places _ n i n' i' (inner count left right around) h = absurd (omega arith)

  -- the subtrees lie within the tree
  chain_within : (s : List ℕ) (k n i : ℕ) → Chain m t passes s k n i → (n ≤ node_count t) × (i ≤ triangle_count m)
  chain_within s _ n i (none nodes items) = (nodes, items)
  chain_within s _ n i (more {k} {n' = n'} {i' = i'} {next = next} passed subtree nodes items rest) =
      let grows = subtree_grows m t (32 - k) n i n' i' subtree in
      let within = chain_within s k (get_or s k 0) next rest in
      (omega (arith, grows.1, within.0), omega (arith, grows.2, within.1))

  -- a store above them changes none of them
  chain_set : (s : List ℕ) (j x k n i : ℕ) → k ≤ j → Chain m t passes s k n i → Chain m t passes (set s j x) k n i
  chain_set s j x _ n i above (none nodes items) = none nodes items
  chain_set s j x _ n i above (more {k} {next = next} passed subtree nodes items rest) =
      let stays : get_or (set s j x) k 0 ≡ get_or s k 0 = get_or-set_other s j k x 0 (λ e. omega arith) in
      more passed subtree (omega (arith, stays)) items (rw stays (chain_set s j x k (get_or s k 0) next (omega arith) rest))

  pending_set : (s : List ℕ) (j x k n : ℕ) → k ≤ j → pending_from t passes (set s j x) k n ≡ pending_from t passes s k n
  unfolding pending_from
  pending_set s j x zero n above = refl
  pending_set s j x (suc k) n above = rw (get_or-set_other s j k x 0 (λ e. omega arith), pending_set s j x k (get_or s k 0) (omega arith))

  -- the first of the subtrees
  record Top (s : List ℕ) (k n i : ℕ) : Type 0 where
    pub node' : ℕ
    pub item' : ℕ
    pub next : ℕ
    pub low : k < 32
    pub passed : passes (box_of t n) ≡ true
    pub subtree : Subtree m t (32 - k) n i node' item'
    pub nodes : node' ≤ get_or s k 0
    pub items : item' ≤ next
    pub rest : Chain m t passes s k (get_or s k 0) next
    pub grows : (n < node') × (i < item')
    pub within : (get_or s k 0 ≤ node_count t) × (next ≤ triangle_count m)

  top : (s : List ℕ) (k n i : ℕ) → Chain m t passes s (suc k) n i → Top s k n i
  top s k n i (more {n' = n'} {i' = i'} {next = next} passed subtree nodes items rest) =
      let grows = subtree_grows m t (32 - k) n i n' i' subtree in
      record {
        node' = n';
        item' = i';
        next = next;
        low = omega (arith, grows.0);
        passed = passed;
        subtree = subtree;
        nodes = nodes;
        items = items;
        rest = rest;
        grows = (grows.1, grows.2);
        within = chain_within s k (get_or s k 0) next rest;
      }

  -- ---- one step, from node n with k subtrees behind its own

  module _ (s : List ℕ) (k n i : ℕ) (c : Chain m t passes s (suc k) n i) where
    abbrev h : Top s k n i
    h = top s k n i c

    step_node : (k < 32) × (n < node_count t) × (n < get_or s k 0)
    step_node = (h.low, omega (arith, h.grows.0, h.nodes, h.within.0), omega (arith, h.grows.0, h.nodes))

    -- a leaf's items lie in the list, and are what the walk comes to
    step_places : 0 < count_of t n → (start_of t n + count_of t n ≤ triangle_count m) × (count_of t n ≤ 4)
    step_places some =
        let places = leaf_places (32 - k) n i h.node' h.item' h.subtree some in
        (omega (arith, places.0, places.1, h.items, h.within.1), places.2)

    step_leaf : 0 < count_of t n → pending_from t passes s (suc k) n ≡ items_from t.items (start_of t n) (count_of t n) ++ pending_from t passes s k (get_or s k 0)
    unfolding pending_from
    step_leaf some = rw (below_leaf t passes (32 - k) n (omega (arith, h.low)) h.passed some)

    -- an inner node
    module _ (count : count_of t n ≡ 0) where
      abbrev half : Halves (32 - k) n i h.node' h.item'
      half = halves (32 - k) n i h.node' h.item' h.subtree count

      abbrev left : ℕ
      left = n + 1

      abbrev right : ℕ
      right = start_of t n

      abbrev next : ℕ
      next = get_or s k 0

      left_grows : (0 < half.less) × (left < right) × (i < half.middle)
      left_grows = subtree_grows m t half.less left i right half.middle half.left

      right_grows : (0 < half.less) × (right < h.node') × (half.middle < h.item')
      right_grows = subtree_grows m t half.less right half.middle h.node' h.item' half.right

      -- there is room for one more, and both children are nodes of the tree
      step_room : (k + 1 < 32) × (left < right) × (right < node_count t)
      step_room = (omega (arith, left_grows.0, half.deep), left_grows.1, omega (arith, right_grows.1, h.nodes, h.within.0))

      step_some : Ready m t → (is_empty (box_of t left) ≡ false) × (is_empty (box_of t right) ≡ false)
      step_some ready = (
        node_some ready half.less left i right half.middle half.left (omega (arith, right_grows.2, h.items, h.within.1)),
        node_some ready half.less right half.middle h.node' h.item' half.right (omega (arith, h.items, h.within.1)),
      )

      -- what the walk comes to below the node
      pending_both : pending_from t passes s (suc k) n ≡ below t passes half.less left ++ (below t passes half.less right ++ pending_from t passes s k next)
      unfolding pending_from
      pending_both =
          ap (λ l. l ++ pending_from t passes s k next) (ap (λ depth. below t passes depth n) half.deep ∙ below_inner t passes half.less n h.passed count)
          ∙ append_assoc (below t passes half.less left) (below t passes half.less right) (pending_from t passes s k next)

      -- a child in the place of the node
      child_pending : (n i n' i' : ℕ) → Subtree m t half.less n i n' i' → pending_from t passes s (suc k) n ≡ below t passes half.less n ++ pending_from t passes s k next
      unfolding pending_from
      child_pending n i n' i' child =
          ap (λ l. l ++ pending_from t passes s k next) (ap (λ depth. below t passes depth n) half.deep ∙ ap reached (visits_deeper half.less n i n' i' child))

      left_alone : passes (box_of t left) ≡ true → Chain m t passes s (suc k) left i
      left_alone p =
          let child : Subtree m t (32 - k) left i right half.middle = subst (λ depth. Subtree m t depth left i right half.middle) (sym half.deep) (deeper half.less left i right half.middle half.left) in
          more {next = h.next} p child (omega (arith, right_grows.1, h.nodes)) (omega (arith, right_grows.2, h.items)) h.rest

      right_alone : passes (box_of t right) ≡ true → Chain m t passes s (suc k) right half.middle
      right_alone p =
          let child : Subtree m t (32 - k) right half.middle h.node' h.item' = subst (λ depth. Subtree m t depth right half.middle h.node' h.item') (sym half.deep) (deeper half.less right half.middle h.node' h.item' half.right) in
          more p child h.nodes h.items h.rest

      -- the left child, with the right one behind it
      abbrev s' : List ℕ
      s' = set s (suc k) right

      module _ (long : length s ≡ 32) where
        at_right : get_or s' (suc k) 0 ≡ right
        at_right = get_or-set_same s (suc k) right 0 (rw long (omega (arith, step_room.0)))

        both : passes (box_of t left) ≡ true → passes (box_of t right) ≡ true → Chain m t passes s' (suc (suc k)) left i
        both p q =
            let low : 32 - suc k ≡ half.less = omega (arith, half.deep) in
            let child : Subtree m t (32 - suc k) left i right half.middle = rw low half.left in
            more p child (rw at_right (le_refl right)) (le_refl half.middle) (rw at_right (chain_set s (suc k) right (suc k) right half.middle (le_refl (suc k)) (right_alone q)))

        both_pending : pending_from t passes s' (suc (suc k)) left ≡ pending_from t passes s (suc k) n
        both_pending =
            let low : 32 - suc k ≡ half.less = omega (arith, half.deep) in
            let first : pending_from t passes s' (suc (suc k)) left ≡ below t passes (32 - suc k) left ++ pending_from t passes s' (suc k) (get_or s' (suc k) 0) = unfold pending_from in refl in
            first
            ∙ rw (low, at_right, pending_set s (suc k) right (suc k) right (le_refl (suc k)), child_pending right half.middle h.node' h.item' half.right) (sym pending_both)

        step_inner : (enters follows : Bool) → passes (box_of t left) ≡ enters → passes (box_of t right) ≡ follows
            → let at = place n (suc k) in
            let at' = advanced s at left right enters follows in
            Onward m t passes s at (pushed s at right enters) at' × (n < at'.node)
        step_inner true true p q =
            (record { walking = record { long = rw (length-set s (suc k) right) long; first = i; chain = rw (add-one (suc k)) (both p q) }; same = rw (add-one (suc k)) both_pending; further = omega arith }, omega arith)
        step_inner true false p q = (
          record {
            walking = record { long = rw (length-set s (suc k) right) long; first = i; chain = chain_set s (suc k) right (suc k) left i (le_refl (suc k)) (left_alone p) };
            same =
                pending_set s (suc k) right (suc k) left (le_refl (suc k))
                ∙ child_pending left i right half.middle half.left
                ∙ sym (rw (below_out t passes half.less right q) at pending_both);
            further = omega arith;
          },
          omega arith,
        )
        step_inner false true p q = (
          record {
            walking = record { long = long; first = half.middle; chain = right_alone q };
            same = child_pending right half.middle h.node' h.item' half.right ∙ sym (rw (below_out t passes half.less left p) at pending_both);
            further = omega (arith, step_room.1);
          },
          omega (arith, step_room.1),
        )
        step_inner false false p q =
            subst
            (λ at'. Onward m t passes s (place n (suc k)) s at' × (n < at'.node))
            (sym (popped_last s n k)) (
              record {
                walking = record { long = long; first = h.next; chain = h.rest };
                same = sym (rw (below_out t passes half.less left p, below_out t passes half.less right q) at pending_both);
                further = omega (arith, step_node.2);
              },
              step_node.2,
            )

-- ---- a walk

-- what is known where a walk is at an inner node n, with so many subtrees still to be visited
pub record Inner (m : Mesh) (t : Tree) (passes : BoundingBox → Bool) (s : List ℕ) (n height : ℕ) : Type 0 where
  pub room : (height < 32) × (n + 1 < start_of t n) × (start_of t n < node_count t)
  pub boxes : Ready m t → (is_empty (box_of t (n + 1)) ≡ false) × (is_empty (box_of t (start_of t n)) ≡ false)
  pub step : (enters follows : Bool) → passes (box_of t (n + 1)) ≡ enters → passes (box_of t (start_of t n)) ≡ follows
      → let at = place n height in
      let at' = advanced s at (n + 1) (start_of t n) enters follows in
      Onward m t passes s at (pushed s at (start_of t n) enters) at' × (n < at'.node)

-- and at any node
pub record Here (m : Mesh) (t : Tree) (passes : BoundingBox → Bool) (s : List ℕ) (n height : ℕ) : Type 0 where
  pub low : height < 33
  pub there : n < node_count t
  pub inner : count_of t n ≡ 0 → Inner m t passes s n height
  -- a leaf
  pub places : 0 < count_of t n → (start_of t n + count_of t n ≤ triangle_count m) × (count_of t n ≤ 4)
  pub leaf : 0 < count_of t n → pending_from t passes s height n ≡ items_from t.items (start_of t n) (count_of t n) ++ pending t passes s (popped s (place n height))
  -- past all that is below the node
  pub after : Walking m t passes s (popped s (place n height))
  pub after_further : n < (popped s (place n height)).node

module _ {m : Mesh} {t : Tree} {passes : BoundingBox → Bool} where
  pub here : {s : List ℕ} {at : Place} → Walking m t passes s at → 0 < at.height → Here m t passes s at.node at.height
  here {s} {at} w some = go at.node at.height w.chain some
    where
      go : (n height : ℕ) → Chain m t passes s height n w.first → 0 < height → Here m t passes s n height
      go n zero c h = absurd (omega arith)
      go n (suc k) c h =
          let first = w.first in
          let step = step_node m t passes s k n first c in
          record {
            low = omega (arith, step.0);
            there = step.1;
            after = subst (Walking m t passes s) (sym (popped_last s n k)) (record { long = w.long; first = (top m t passes s k n first c).next; chain = (top m t passes s k n first c).rest });
            after_further = subst (λ at. n < at.node) (sym (popped_last s n k)) step.2;
            places = step_places m t passes s k n first c;
            leaf = λ some. step_leaf m t passes s k n first c some ∙ ap (λ at. items_from t.items (start_of t n) (count_of t n) ++ pending t passes s at) (sym (popped_last s n k));
            inner = λ count.
                let room = step_room m t passes s k n first c count in
                record {
                  room = (omega (arith, room.0), room.1, room.2);
                  boxes = λ ready. step_some m t passes s k n first c count ready;
                  step = step_inner m t passes s k n first c count w.long;
                };
          }

  pub onward_none : {s : List ℕ} {at : Place} → Walking m t passes s at → Onward m t passes s at s at
  onward_none w = record { walking = w; same = refl; further = le_refl _ }

  pub onward_more : {s s' s'' : List ℕ} {at at' at'' : Place} → Onward m t passes s at s' at' → Onward m t passes s' at' s'' at'' → Onward m t passes s at s'' at''
  onward_more one two = record { walking = two.walking; same = two.same ∙ one.same; further = omega (arith, one.further, two.further) }

-- what a walk finds at a leaf, a part of the tree's items: triangles of the mesh, one to four, with which what it still came to begins
pub record Found (m : Mesh) (t : Tree) (passes : BoundingBox → Bool) (s : List ℕ) (at : Place) (s' : List ℕ) (at' : Place) (items : List ℕ) : Type 0 where
  pub coming : pending t passes s at ≡ items ++ pending t passes s' (popped s' at')
  pub triangles : Items m items
  pub some : 0 < length items
  pub few : length items ≤ 4

module _ {m : Mesh} {t : Tree} {passes : BoundingBox → Bool} {s s' : List ℕ} {at at' : Place} (ready : Ready m t) (next : NextLeaf m t passes s at s' at') (on : 0 < at'.height) where
  -- where the leaf's items lie
  pub leaf_within : start_of t at'.node + count_of t at'.node ≤ length t.items
  leaf_within = omega (arith, ready.rules.items, ((here next.onward.walking on).places (next.leaf on)).0)

  pub leaf_found : (end : ℕ) → end ≡ count_of t at'.node → Found m t passes s at s' at' (take end (drop (start_of t at'.node) t.items))
  leaf_found end same =
      let start = start_of t at'.node in
      let count = count_of t at'.node in
      let h = here next.onward.walking on in
      let some = next.leaf on in
      let part = items_from_part t.items start count leaf_within in
      let long : length (take count (drop start t.items)) ≡ count = length-take-le count (drop start t.items) (omega (arith, length-drop start t.items, leaf_within)) in
      rw same (
      record {
        coming = sym next.onward.same ∙ h.leaf some ∙ ap (λ l. l ++ pending t passes s' (popped s' at')) part;
        triangles = λ j less.
            rw (get_or-take count (drop start t.items) j 0 (omega (arith, long)), get_or-drop start t.items j 0)
            (ready_items ready (start + j) (omega (arith, long, leaf_within)));
        some = omega (arith, long, some);
        few = omega (arith, long, (h.places some).1);
      }
      )
