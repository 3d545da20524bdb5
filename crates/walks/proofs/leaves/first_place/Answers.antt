-- `first_place` meets its contract: without a root that passes there is nothing to come to.
use native.Mathlib.Omega.{arith}
use mathlib.Core.Path.{sym, ◌∙◌}
use Rattle.walks.specs.laws.StartLaws as StartLaws
use Rattle.walks.proofs.leaves.first_place.Goals as goal

pub returns-then-node_count-eq0 : goal.returns-then-node_count-eq0
returns-then-node_count-eq0 g c = rw (← c.tree.view_is) (StartLaws.begins_rootless (omega (arith, c.node_count.ensures, c.if-node_count-eq0.true)))

pub passes-requires-clause-some : goal.passes-requires-clause-some
passes-requires-clause-some g c = StartLaws.root_some _ _ c.tree.invariant.1 (omega arith) (record { accepted = c.tree.invariant.0; rules = c.tree.invariant.1 })

pub returns-then-not-passes : goal.returns-then-not-passes
returns-then-not-passes g c = rw (← c.tree.view_is) (StartLaws.begins_outside (sym c.passes.ensures ∙ c.if-not-passes.true))

pub returns : goal.returns
returns g c = rw (← c.tree.view_is) (StartLaws.begins_at_root c.tree.invariant.1 (omega arith) (sym c.passes.ensures ∙ c.if-not-passes.false))
