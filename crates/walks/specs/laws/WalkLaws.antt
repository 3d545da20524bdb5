-- Laws of what a walk comes to: up to the triangle that ends it, from a node down, and at a leaf.
use Prim.Native.Nat.{ℕ, zero, suc, ◌+◌, ◌≤◌, ◌<◌}
use Rattle.std.proofs.Common.{add-one, arith, sym, subst, ◌∙◌, length-append, drop_of_length-le, drop-cons}
use Rattle.std.specs.Prelude.{Option, Some, None, ⊤, ◌≡◌, Bool, true, false, cond, List, [], ◌∷◌, ◌++◌, map, T, length, get_or, take, drop}
use Rattle.std.specs.Borrow.{Bor}
use Rattle.std.specs.Iterator.{MakesProgress, item_count}
use Rattle.std.proofs.Math.Path.{refl, ap}
use borrow.Author.Tests.{eq-eqb, ne_eqb}
use Rattle.keys.specs.laws.SortingTheorems.{by_test}
use Rattle.math.specs.declared.BoundingBox.{BoundingBox}
use Rattle.tree.specs.Tree.{Tree, box_of, start_of, count_of}
use Rattle.scan.specs.declared.rays.RayHit.{RayHit}
use Rattle.scan.specs.Scan.{some, is_degenerate, vote_over}
use Rattle.scan.specs.laws.ScanLaws.{some_cons}
use Rattle.walks.specs.Walks.{Visit, node, item, items_from, visits, up_to, reached}
use Rattle.walks.specs.steps.Leaves.{Walk, Gives}

-- a test does not both hold and fail
pub clash : {A : Type 0} → true ≡ false → A
clash e = absurd (subst T e tt)

-- ---- visits

reached_append : (v w : List Visit) → reached (v ++ w) ≡ reached v ++ reached w
unfolding reached
reached_append [] w = refl
reached_append (node n ∷ v) w = reached_append v w
reached_append (item t ∷ v) w = rw (reached_append v w)

reached_items : (l : List ℕ) → reached (map item l) ≡ l
unfolding reached
reached_items [] = refl
reached_items (t ∷ l) = rw (reached_items l)

-- a walk that ends at the first triangle for which a test holds finds whether it holds for one
pub some_up_to : (test : ℕ → Bool) (v : List Visit) → some test (reached (up_to test v)) ≡ some test (reached v)
unfolding reached up_to
some_up_to test [] = refl
some_up_to test (node n ∷ v) = some_up_to test v
some_up_to test (item t ∷ v) =
    some_cons test t (reached (cond (test t) [] (up_to test v)))
    ∙ by_test (test t) (λ e. rw e) (λ e. rw e (some_up_to test v))
    ∙ sym (some_cons test t (reached v))

-- and where it holds for none, the walk goes to the end
up_to_all : (test : ℕ → Bool) (v : List Visit) → some test (reached v) ≡ false → up_to test v ≡ v
unfolding reached up_to
up_to_all test [] e = refl
up_to_all test (node n ∷ v) e = rw (up_to_all test v e)
up_to_all test (item t ∷ v) e =
    by_test
    (test t)
    (λ h. clash (sym (rw h at (some_cons test t (reached v))) ∙ e))
    (λ h. rw (h, up_to_all test v (sym (rw h at (some_cons test t (reached v))) ∙ e)))

-- the vote of a walk that ends at the first Degenerate triangle is that of the whole walk
pub vote_up_to : (find : ℕ → RayHit) (v : List Visit) → vote_over find (reached (up_to (λ t. is_degenerate (find t)) v)) ≡ vote_over find (reached v)
unfolding vote_over
vote_up_to find v =
    by_test
    (some (λ t. is_degenerate (find t)) (reached v))
    (λ e. rw (some_up_to (λ t. is_degenerate (find t)) v, e))
    (λ e. rw (up_to_all (λ t. is_degenerate (find t)) v e))

-- ---- from a node down

module _ (t : Tree) (passes : BoundingBox → Bool) where
  -- the triangles that a walk comes to from node n down
  abbrev pub below : ℕ → ℕ → List ℕ
  below depth n = reached (visits t passes depth n)

  -- nothing below a node whose box does not pass
  pub below_out : (depth n : ℕ) → passes (box_of t n) ≡ false → below depth n ≡ []
  unfolding visits reached
  below_out zero n e = refl
  below_out (suc depth) n e = rw e

  -- a leaf's triangles
  pub below_leaf : (depth n : ℕ) → 0 < depth → passes (box_of t n) ≡ true → 0 < count_of t n → below depth n ≡ items_from t.items (start_of t n) (count_of t n)
  unfolding visits reached
  below_leaf zero n d e h = absurd (omega arith)
  below_leaf (suc depth) n d e h = rw (e, ne_eqb (count_of t n) 0 (λ z. omega arith)) (reached_items (items_from t.items (start_of t n) (count_of t n)))

  -- an inner node: the left child's before the right child's
  pub below_inner : (depth n : ℕ) → passes (box_of t n) ≡ true → count_of t n ≡ 0 → below (suc depth) n ≡ below depth (n + 1) ++ below depth (start_of t n)
  unfolding visits reached
  below_inner depth n e z = rw (e, eq-eqb (count_of t n) 0 z) (reached_append (visits t passes depth (n + 1)) (visits t passes depth (start_of t n)))

-- ---- item places

-- two runs of item places
pub items_from_append : (items : List ℕ) (i a b : ℕ) → items_from items i (a + b) ≡ items_from items i a ++ items_from items (i + a) b
unfolding items_from
items_from_append items i zero b =
    let here : i + 0 ≡ i = omega arith in
    let none : 0 + b ≡ b = omega arith in
    rw (here, none) refl
items_from_append items i (suc a) b =
    let next : i + suc a ≡ i + 1 + a = omega arith in
    let more : suc a + b ≡ suc (a + b) = omega arith in
    rw (next, more, items_from_append items (i + 1) a b)

-- all places
pub items_from_all : (items : List ℕ) (i places : ℕ) → i + places ≡ length items → items_from items i places ≡ drop i items
unfolding items_from
items_from_all items i zero e = sym (drop_of_length-le items {i = i} (omega arith))
items_from_all items i (suc places) e = rw (items_from_all items (i + 1) places (omega arith), add-one i) (sym (drop-cons items i 0 (omega arith)))

-- items at places that the list has are a part of it
pub items_from_part : (items : List ℕ) (i places : ℕ) → i + places ≤ length items → items_from items i places ≡ take places (drop i items)
unfolding items_from
items_from_part items i zero h = refl
items_from_part items i (suc places) h = rw (drop-cons items i 0 (omega arith)) (ap (λ rest. get_or items i 0 ∷ rest) (rw (← add-one i) (items_from_part items (i + 1) places (omega arith))))

-- ---- the leaves one after the other

-- with each leaf the walk comes to fewer
pub progress : (w : Walk) (given : Option (Bor (List ℕ))) (w' : Walk) → Gives w given w' → MakesProgress (λ _. ⊤) (item_count (λ (w : Walk). w.coming)) w given w'
progress w None w' g = record { on = λ _. tt; keeps = tt; rests = λ _. tt }
progress w (Some items) w' g =
    let all : length w.coming ≡ length (items.now ++ w'.coming) = ap (λ l. length l) g.leaf in
    record { on = λ _. (tt, tt, omega (arith, rw length-append at all, g.places.0)); keeps = tt; rests = λ _. tt }
