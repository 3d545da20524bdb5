-- `Touch::touches_some` meets its contract: `any` asks of the items in their order.
use Rattle.std.specs.Prelude.{◌≡◌, ℕ, Bool, List, [], ◌∷◌}
use Rattle.std.specs.List.{list_any}
use Rattle.std.proofs.Common.{rules, tests, sym, ◌∙◌}
use Rattle.std.proofs.lemmas.Grind.{get_or_default_zero}
use Rattle.std.proofs.lemmas.Iterator.{YieldsList-from_slice}
use Rattle.std.proofs.lemmas.Iterator.Adapters.{serves_from_places}
use Rattle.std.proofs.lemmas.Iterator.Search.{any_from_yields_List}
use Rattle.scan.specs.Scan.{some, touches}
use Rattle.scan.specs.laws.ScanLaws.{some_nothing, some_cons}
use Rattle.walks.proofs.surface.Touch.touches_some.Goals as goal

as_some : (test : ℕ → Bool) (l : List ℕ) → list_any test l ≡ some test l
as_some test [] = sym (some_nothing test)
as_some test (t ∷ rest) = rw (as_some test rest) (sym (some_cons test t rest))

pub any-requires-clause-callable : goal.any-requires-clause-callable
any-requires-clause-callable c =
    serves_from_places (YieldsList-from_slice c.args.items.now c.iter.ensures.rest) (λ x q k. search (rules, tests))
    (λ x k h e _ _ _ _ _ _ _. rw (e ∙ get_or_default_zero c.args.items.now k x.now h) (c.requires k h))

pub returns : goal.returns
returns c =
    any_from_yields_List (touches c.args.mesh.now c.args.self.eps c.args.self.point) _ _ c.any.result c.any.ensures.ran (YieldsList-from_slice c.args.items.now c.iter.ensures.rest) (λ x b q k. search (rules, tests))
    ∙ as_some _ c.args.items.now
