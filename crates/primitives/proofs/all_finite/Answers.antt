-- `all_finite` meets its contract: std's `all` over the list is what the definition says.
use Rattle.std.specs.Prelude.{◌≡◌, refl, ◌&&◌, List, [], ◌∷◌, Float}
use Rattle.std.proofs.Common.{rules, tests, ap, ◌∙◌}
use Rattle.std.proofs.lemmas.Iterator.{YieldsList-from_slice}
use Rattle.std.proofs.lemmas.Iterator.Search.{all_from_yields_List}
use Rattle.std.specs.List.{list_all}
use Rattle.float.specs.Rules.{is_finite}
use Rattle.primitives.specs.ShapeQuestions.{all_finite}
use Rattle.primitives.proofs.all_finite.Goals as goal

each : (l : List Float) → list_all (λ x. is_finite x) l ≡ all_finite l
unfolding all_finite
each [] = refl
each (x ∷ rest) = ap (λ b. is_finite x && b) (each rest)

pub returns : goal.returns
returns c =
    all_from_yields_List (λ x. is_finite x) _ _ c.all.result c.all.ensures.ran (YieldsList-from_slice c.args.list.now c.iter.ensures.rest) (λ x b q k. search (rules, tests))
    ∙ each c.args.list.now
