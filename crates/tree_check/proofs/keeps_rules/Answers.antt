-- `keeps_rules` meets its contract: its tests are those of the definition, in its order. Items that name each triangle once are triangles of the
-- mesh (`once_below_lem`), which is what the walk asks for.
use native.Mathlib.Omega.{arith}
use Prim.Native.Nat.{ℕ, ◌+◌, ◌-◌, ◌*◌, ◌≤◌}
use mathlib.Core.Path.{◌≡◌, refl, sym, ap, ◌∙◌}
use mathlib.Core.Bool.{Bool, true, false, ◌&&◌, and_assoc}
use mathlib.Core.List.{List}
use lib.Dec.{eqb}
use lib.ListN.{length, drop}
use lib.Seq.{drop-drop}
use borrow.Author.Tests.{eqb-true}
use Rattle.refusal.specs.laws.VerdictLaws.{both}
use Rattle.tree.specs.laws.Once.{once_below_lem}
use Rattle.tree.specs.steps.Counting.{once_below, CountsOnce}
use Rattle.mesh_questions.specs.steps.Accepted.{Accepted}
use Rattle.mesh.specs.Mesh.{Mesh, triangle_count}
use Rattle.tree.specs.Tree.{Tree, node_count}
use Rattle.tree.specs.steps.TreeTest.{Fitting, root_test, tree_test}
use Rattle.tree.specs.laws.TreeTheorem.{once_sound}
use Rattle.tree_check.proofs.keeps_rules.Goals.{After-items_once}
use Rattle.tree_check.proofs.keeps_rules.Goals as goal

-- lists that agree from place n on agree from any later place on
agree_later : (n k : ℕ) (l m : List ℕ) → n ≤ k → drop n l ≡ drop n m → drop k l ≡ drop k m
agree_later n k l m h e =
    let more : n + (k - n) ≡ k = omega arith in
    rw (← more, ← drop-drop (k - n) n l, ← drop-drop (k - n) n m, e)

module _ (m : Mesh) (t : Tree) (accepted : Accepted m.coords m.corners m.ends) where
  -- the test of the lengths
  abbrev fit : Bool
  fit = eqb (length t.boxes) (6 * node_count t) && eqb (length t.nodes) (2 * node_count t)

  -- the test of the items
  abbrev once : Bool
  once = eqb (length t.items) (triangle_count m) && once_below (triangle_count m) t.items

  -- the tests one after the other
  tested : tree_test m t ≡ (fit && once && root_test m t)
  unfolding tree_test
  tested = rw (and_assoc fit)

  lent : fit ≡ true → once ≡ true → Fitting m t
  lent f o =
      let lengths = both (eqb (length t.boxes) (6 * node_count t)) _ f in
      let counts = both (eqb (length t.items) (triangle_count m)) _ o in
      record {
        boxes = eqb-true _ _ lengths.0;
        nodes = eqb-true _ _ lengths.1;
        items = once_below_lem _ t.items (eqb-true _ _ counts.0) (once_sound _ t.items counts.1);
      }

  -- what the work places hold behind those that are needed
  rest : (work₀ work : List ℕ) (result : Bool) → CountsOnce t.items (triangle_count m) work₀ result work → drop (length m.corners) work ≡ drop (length m.corners) work₀
  rest work₀ work result counted = agree_later (triangle_count m) (length m.corners) work work₀ (omega arith) counted.rest

-- what is known once the items are counted
module _ (c : After-items_once) where
  mesh : Accepted c.args.mesh.now.coords c.args.mesh.now.corners c.args.mesh.now.ends
  mesh = c.triangle_count-triangles.ensures.accepted

  fits : fit c.args.mesh.now c.args.tree.now mesh ≡ true
  unfolding node_count
  fits = sym c.lengths_fit.ensures ∙ c.if-not-lengths_fit.false

  counted : CountsOnce c.args.tree.now.items (triangle_count c.args.mesh.now) c.args.work.now c.items_once.result c.items_once.new.work
  counted = rw (c.triangle_count-triangles.ensures.count, ap (λ (t : Tree). t.items) c.tree.view_is) at c.items_once.ensures

pub returns-then-not-lengths_fit : goal.returns-then-not-lengths_fit
unfolding node_count
returns-then-not-lengths_fit c =
    let m = c.args.mesh.now in
    let t = c.args.tree.now in
    let accepted = c.triangle_count-triangles.ensures.accepted in
    let no : fit m t accepted ≡ false = sym c.lengths_fit.ensures ∙ c.if-not-lengths_fit.true in
    record { answer = rw (tested m t accepted, no); rest = refl }

pub returns-then-not-items_once : goal.returns-then-not-items_once
returns-then-not-items_once c =
    let at = (goal.at.returns-then-not-items_once c).After-items_once in
    let no : once c.args.mesh.now c.args.tree.now (mesh at) ≡ false = sym (counted at).answer ∙ c.if-not-items_once.true in
    record { answer = rw (tested _ _ (mesh at), fits at, no); rest = rest _ c.args.tree.now (mesh at) _ _ _ (counted at) }

pub invariant_of-root_fits : goal.invariant_of-root_fits
invariant_of-root_fits c =
    let at = (goal.at.invariant_of-root_fits c).After-items_once in
    lent c.args.mesh.now c.args.tree.now (mesh at) (fits at) (sym (counted at).answer ∙ c.if-not-items_once.false)

pub returns : goal.returns
returns c =
    let at = (goal.at.returns c).After-items_once in
    let yes : once c.args.mesh.now c.args.tree.now (mesh at) ≡ true = sym (counted at).answer ∙ c.if-not-items_once.false in
    record { answer = rw (tested _ _ (mesh at), fits at, yes) c.root_fits.ensures; rest = rest _ c.args.tree.now (mesh at) _ _ _ (counted at) }
