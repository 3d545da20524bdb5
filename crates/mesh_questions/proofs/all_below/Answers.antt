-- `all_below` meets its contract: the method tests each corner.
use Rattle.std.proofs.Common.{◌≡◌, ℕ, List, [], ◌∷◌, ltb, refl, ◌∙◌, rules, tests}
use Rattle.std.specs.List.{list_all}
use Rattle.std.proofs.lemmas.Iterator.{YieldsList-from_slice}
use Rattle.std.proofs.lemmas.Iterator.Search.{all_from_yields_List}
use Rattle.mesh_questions.specs.MeshQuestions.{all_below}
use Rattle.mesh_questions.proofs.all_below.Goals as goal

each_below : (vertices : ℕ) (face : List ℕ) → list_all (λ x. ltb x vertices) face ≡ all_below vertices face
unfolding all_below
each_below vertices [] = refl
each_below vertices (x ∷ face) = rw (each_below vertices face)

pub returns : goal.returns
returns c =
    let face = c.args.face.now in
    all_from_yields_List (λ x. ltb x c.args.vertices) _ _ _ c.all.ensures.ran (YieldsList-from_slice face c.iter.ensures.rest) (λ x b q k. search (rules, tests)) ∙ each_below c.args.vertices face
