-- `ask_tree` meets its contract: `keeps_rules` says whether the tree keeps the rules, and what it left in the places that are needed is cleared
-- (`answered`).
use Prim.Native.Nat.{ℕ}
use mathlib.Core.Path.{◌≡◌, ap, ◌∙◌}
use mathlib.Core.Bool.{Bool, true, false}
use mathlib.Core.List.{List}
use lib.ListN.{length, replicate, length-replicate}
use Rattle.lent.specs.Over.{over}
use Rattle.refusal.specs.declared.Refusal.TheVariants as Refusals
use Rattle.refusal.specs.Verdicts.{ask}
use Rattle.mesh.specs.Mesh.{Mesh}
use Rattle.tree.specs.Tree.{Tree}
use Rattle.tree_check.specs.Check.{ask_tree}
use Rattle.tree_check.specs.steps.CheckSteps.{Keeps, AsksTree}
use Rattle.tree_check.proofs.ask_tree.Goals as goal

answered : (m : Mesh) (t : Tree) (work₀ counted work : List ℕ) (result kept : Bool) → result ≡ kept → Keeps m t work₀ result counted → work ≡ over (replicate (length m.corners) 0) counted
    → AsksTree m t work₀ (ask kept Refusals.Tree) work
unfolding ask_tree over
answered m t work₀ counted work result kept same keeps cleared =
    let long : length {A = ℕ} (replicate (length m.corners) 0) ≡ length m.corners = length-replicate (length m.corners) 0 in
    record {
      answer = rw (← same, keeps.answer);
      work = cleared ∙ rw (long, keeps.rest);
    }

pub returns-then-kept : goal.returns-then-kept
returns-then-kept c = answered _ _ _ _ _ _ true c.if-kept.true c.keeps_rules-kept.ensures (rw (ap (λ (m : Mesh). length m.corners) c.mesh.view_is) at c.clear.ensures)

pub returns-else-kept : goal.returns-else-kept
returns-else-kept c = answered _ _ _ _ _ _ false c.if-kept.false c.keeps_rules-kept.ensures (rw (ap (λ (m : Mesh). length m.corners) c.mesh.view_is) at c.clear.ensures)
