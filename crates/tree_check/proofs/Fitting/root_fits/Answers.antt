-- `Fitting::root_fits` meets its contract: its tests are those of the definition, with the number of triangles taken from the lengths.
use Prim.Native.Nat.{ℕ}
use mathlib.Core.Path.{◌≡◌, sym, ◌∙◌}
use mathlib.Core.Bool.{Bool, false, ◌&&◌}
use lib.Dec.{eqb}
use Rattle.std.specs.Prelude.{Option, Some, None, MatchOption}
use Rattle.std.proofs.Common.{rules, tests}
use Rattle.tree.specs.declared.Walked.{Walked}
use borrow.Author.Tests.{eq-eqb, ne_eqb}
use Rattle.mesh.specs.Mesh.{triangle_count}
use Rattle.tree.specs.Tree.{node_count}
use Rattle.tree.specs.steps.TreeTest.{ends_at, root_test}
use Rattle.tree_check.proofs.Fitting.root_fits.Goals as goal

-- whether a walk that ended passes the test `Q`
ends : (w : Option Walked) (n item : ℕ) (r : Bool) (Q : Walked → Type 0) → MatchOption w (r ≡ false) Q → ((x : Walked) → Q x → r ≡ (eqb x.node n && eqb x.item item)) → r ≡ ends_at w n item
unfolding ends_at
ends None n item r Q h f = h
ends (Some x) n item r Q h f = f x h

pub returns-then-triangles-eq0 : goal.returns-then-triangles-eq0
unfolding root_test node_count
returns-then-triangles-eq0 c =
    let m = c.self.inside.mesh.now in
    let known = c.triangle_count-triangles.ensures in
    let none : triangle_count m ≡ 0 = sym known.count ∙ c.if-triangles-eq0.true in
    rw (← c.self.view_is, eq-eqb (triangle_count m) 0 none, ← c.tree.view_is, c.node_count-n.ensures)

pub returns : goal.returns
unfolding root_test node_count
returns c =
    let m = c.self.inside.mesh.now in
    let known = c.triangle_count-triangles.ensures in
    let all : triangle_count m ≡ c.triangle_count-triangles.result = sym known.count in
    let walked = rw (← c.self.view_is) at c.walk.ensures in
    rw (← c.self.view_is, all, ne_eqb _ 0 c.if-triangles-eq0.false, ← walked, ← c.tree.view_is, ← c.node_count-n.ensures)
    (ends c.walk.result _ _ c.is_some_and.result _ c.is_some_and.ensures (λ x q. search (rules, tests)))
