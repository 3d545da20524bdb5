-- `BoundingBox::from_points` meets its contract: three numbers after another are the points of the list, and a fold takes each in.
use Rattle.std.specs.Prelude.{◌≡◌, ◌/◌, List, [], ◌∷◌, Float, fold, length, map, refl}
use Rattle.std.proofs.Common.{◌∙◌, rules, tests}
use Rattle.std.proofs.lemmas.Iterator.{YieldsList-from_slice}
use Rattle.std.proofs.lemmas.Iterator.Consumers.{fold_from_yields_List}
use Rattle.std.specs.Simd.{first_chunks}
use Rattle.math.specs.declared.BoundingBox.{BoundingBox}
use Rattle.math.specs.BoundingBoxes.{include, include_all, from_points}
use Rattle.math.specs.laws.Chunks.{points_of_chunks}
use Rattle.math.specs.Vectors.{at}
use Rattle.math.proofs.BoundingBox.from_points.Goals as goal

as_fold : (b : BoundingBox) (l : List (List Float)) → fold (λ b v. include b (at v 0)) b l ≡ include_all b (map (λ v. at v 0) l)
unfolding include_all
as_fold b [] = refl
as_fold b (v ∷ rest) = as_fold (include b (at v 0)) rest

pub returns : goal.returns
unfolding from_points
returns c =
    let coords = c.args.coords.now in
    let chunks = first_chunks 3 (length coords / 3) coords in
    fold_from_yields_List _ (λ b v. include b (at v 0)) c.empty.result c.fold.result c.fold.ensures.ran (YieldsList-from_slice chunks (c.iter.ensures.rest ∙ c.as_chunks.ensures.front)) (λ b v a q k. search (rules, tests))
    ∙ as_fold c.empty.result chunks
    ∙ rw (c.empty.ensures, points_of_chunks (length coords / 3) coords refl)
