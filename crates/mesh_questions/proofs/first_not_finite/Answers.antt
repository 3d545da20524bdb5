-- `first_not_finite` meets its contract: three numbers after another are the points of the list (`first_at`).
use Rattle.std.proofs.Common.{◌≡◌, ℕ, suc, ◌+◌, ◌/◌, Bool, true, false, not, cond, ltb, Option, Some, None, List, [], ◌∷◌, length, refl, sym, ◌∙◌, arith, rules, tests, lt-ltb}
use Rattle.std.proofs.lemmas.Iterator.{YieldsList-from_slice}
use Rattle.std.proofs.lemmas.Iterator.Search.{position_from_yields_List}
use Rattle.std.specs.List.{position_or_len}
use Rattle.std.specs.Simd.{first_chunks}
use Rattle.std.specs.Prelude.{Float}
use Rattle.math.specs.Vectors.{vec, at, points, is_finite}
use Rattle.mesh_questions.specs.laws.QuestionLaws.{ltb_suc}
use Rattle.mesh_questions.specs.steps.Finite.{first_not_finite}
use Rattle.mesh_questions.proofs.first_not_finite.Goals as goal

turn : (finite : Bool) (number m n : ℕ) (rest : Option ℕ) → rest ≡ cond (ltb m n) (Some (number + 1 + m)) None
    → cond finite rest (Some number) ≡ cond (ltb (cond (not (not finite)) (1 + m) 0) (suc n)) (Some (number + cond (not (not finite)) (1 + m) 0)) None
turn true number m n rest e =
    let same : number + (1 + m) ≡ number + 1 + m = omega arith in
    rw (same, ltb_suc m n) e
turn false number m n rest e =
    let here : number + 0 ≡ number = omega arith in
    rw (here, lt-ltb 0 (suc n) (omega arith))

first_at : (number : ℕ) (l : List Float) → first_not_finite number (points l) ≡ (let k = position_or_len (λ c. not (is_finite (at c 0))) (first_chunks 3 (length l / 3) l) in cond (ltb k (length l / 3)) (Some (number + k)) None)
unfolding points first_not_finite at
first_at number [] = refl
first_at number (x ∷ []) = refl
first_at number (x ∷ y ∷ []) = refl
first_at number (x ∷ y ∷ z ∷ rest) =
    let more : length (x ∷ y ∷ z ∷ rest) / 3 ≡ suc (length rest / 3) = omega arith in
    rw more (turn (is_finite (vec x y z)) number _ _ _ (first_at (number + 1) rest))

pub returns-clause-first : goal.returns-clause-first
returns-clause-first c =
    let l = c.args.list.now in
    let found =
    position_from_yields_List (λ v. not (is_finite (at v 0))) _ _ c.position.result c.position.ensures.ran
    (YieldsList-from_slice (first_chunks 3 (length l / 3) l) (c.iter.ensures.rest ∙ c.as_chunks.ensures.front))
    (λ x b q k. search (rules, tests)) in
    let long = rw c.as_chunks.ensures.front at c.as_chunks.ensures.front_len in
    let none : (k : ℕ) → 0 + k ≡ k = λ k. omega arith in
    rw long at found ∙ sym (rw (none (position_or_len (λ v. not (is_finite (at v 0))) (first_chunks 3 (length l / 3) l))) at (first_at 0 l))
