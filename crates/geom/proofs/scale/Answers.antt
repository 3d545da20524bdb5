-- `scale` meets its contract: a fold over the list that takes in each magnitude is what the definition says.
use Rattle.std.specs.Prelude.{◌≡◌, List, [], ◌∷◌, Float, fold, refl}
use Rattle.std.proofs.Common.{◌∙◌, rules, tests}
use Rattle.std.proofs.lemmas.Iterator.{YieldsList-from_slice}
use Rattle.std.proofs.lemmas.Iterator.Consumers.{fold_from_yields_List}
use Rattle.float.specs.Arithmetic.{zero}
use Rattle.float.specs.Rules.{max, abs}
use Rattle.geom.specs.Tolerance.{scale, scale_from}
use Rattle.geom.proofs.scale.Goals as goal

as_fold : (m : Float) (l : List Float) → fold (λ m x. max m (abs x)) m l ≡ scale_from m l
unfolding scale_from
as_fold m [] = refl
as_fold m (x ∷ rest) = as_fold (max m (abs x)) rest

pub returns : goal.returns
unfolding scale
returns c =
    fold_from_yields_List _ (λ m x. max m (abs x)) zero c.fold.result c.fold.ensures.ran (YieldsList-from_slice c.args.list.now c.iter.ensures.rest) (λ a x b q k. search (rules, tests))
    ∙ as_fold zero c.args.list.now
