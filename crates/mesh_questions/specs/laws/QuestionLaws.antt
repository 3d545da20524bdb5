-- The laws by which a loop over a list's places computes the definitions of the questions.
use Rattle.std.specs.Prelude.{ℕ, suc, ◌+◌, ◌-◌, ◌≤◌, ◌<◌, ◌≡◌, refl, Bool, true, false, cond, ◌&&◌, List, [], ◌∷◌, leb, ltb, length, get_or, take, drop, Option, Some, None, MatchOption, IsErrAnd}
use Rattle.std.proofs.Common.{add-one, arith, sym, ◌∙◌, drop-cons, leb-true, eqb-true, ltb-true, ltb-false, lt-ltb, le-ltb}
use Rattle.std.proofs.lemmas.Result.{err_from_is_err_and}
use Rattle.math.specs.declared.Vec3.{Vec3}
use Rattle.math.specs.Vectors as Vectors
use Rattle.refusal.specs.declared.Refusal.{Refusal}
use Rattle.refusal.specs.Verdicts.{Verdict, Passed, ask, then}
use Rattle.refusal.specs.laws.VerdictLaws.{both}
use Rattle.mesh_questions.specs.Faces.{faces_from}
use Rattle.mesh_questions.specs.MeshQuestions.{ends_fit, ask_face, ask_faces, ask_finite}
use Rattle.mesh_questions.specs.steps.Finite.{first_not_finite, refused_at}

-- one more on both sides
pub ltb_suc : (a b : ℕ) → ltb (1 + a) (suc b) ≡ ltb a b
ltb_suc a b = go (ltb a b) refl
  where
    go : (t : Bool) → ltb a b ≡ t → ltb (1 + a) (suc b) ≡ t
    go true e = let h = ltb-true a b e in lt-ltb (1 + a) (suc b) (omega arith)
    go false e = let h = ltb-false a b e in le-ltb (1 + a) (suc b) (omega arith)

-- from end i on: it does not fall, and so on
pub ends_fit_next : (before corners : ℕ) (ends : List ℕ) (i : ℕ) → i < length ends → ends_fit before corners (drop i ends) ≡ (leb before (get_or ends i 0) && ends_fit (get_or ends i 0) corners (drop (i + 1) ends))
unfolding ends_fit
ends_fit_next before corners ends i h = rw (add-one, drop-cons ends i 0)

-- ends that fit are at most the corner count
pub ends_fit_le : (before corners : ℕ) (ends : List ℕ) → ends_fit before corners ends ≡ true → before ≤ corners
unfolding ends_fit
ends_fit_le before corners [] e = omega (arith, eqb-true before corners e)
ends_fit_le before corners (end ∷ rest) e =
    let h = both _ _ e in
    omega (arith, leb-true before end h.0, ends_fit_le end corners rest h.1)

-- ends that fit from end i on: it lies between the end before it and the corner count, and the rest fit behind it
pub ends_fit_step : (before corners : ℕ) (ends : List ℕ) (i : ℕ) → i < length ends → ends_fit before corners (drop i ends) ≡ true
    → (before ≤ get_or ends i 0) × (get_or ends i 0 ≤ corners) × (ends_fit (get_or ends i 0) corners (drop (i + 1) ends) ≡ true)
ends_fit_step before corners ends i h e =
    let parts = both _ _ (sym (ends_fit_next before corners ends i h) ∙ e) in
    (leb-true _ _ parts.0, ends_fit_le _ _ _ parts.1, parts.1)

-- from face i on: it is asked, and then the rest
pub ask_faces_next : (vertices number start : ℕ) (corners ends : List ℕ) (i : ℕ) → i < length ends
    → ask_faces vertices number (faces_from start corners (drop i ends))
    ≡ then
    (ask_face vertices number (take (get_or ends i 0 - start) (drop start corners)))
    (ask_faces vertices (number + 1) (faces_from (get_or ends i 0) corners (drop (i + 1) ends)))
unfolding ask_faces faces_from
ask_faces_next vertices number start corners ends i h = rw (add-one i, drop-cons ends i 0)

-- that vector is the one that is refused
pub ask_finite_first : (refusal : ℕ → Refusal) (number : ℕ) (vectors : List Vec3) → ask_finite refusal number vectors ≡ refused_at refusal (first_not_finite number vectors)
unfolding ask_finite first_not_finite
ask_finite_first refusal number [] = refl
ask_finite_first refusal number (v ∷ rest) = go (Vectors.is_finite v) (ask_finite_first refusal (number + 1) rest)
  where
    go : (finite : Bool) → ask_finite refusal (number + 1) rest ≡ refused_at refusal (first_not_finite (number + 1) rest)
        → then (ask finite (refusal number)) (ask_finite refusal (number + 1) rest) ≡ refused_at refusal (cond finite (first_not_finite (number + 1) rest) (Some number))
    go true next = next
    go false next = refl

-- a verdict that is none where all vectors are finite, and else the refusal of the first that is not, is the question's
pub ask_finite_found : (refusal : ℕ → Refusal) (vectors : List Vec3) (verdict : Verdict)
    → MatchOption (first_not_finite 0 vectors) (verdict ≡ Passed) (λ number. IsErrAnd verdict (λ said. said ≡ refusal number))
    → verdict ≡ ask_finite refusal 0 vectors
ask_finite_found refusal vectors verdict found = go (first_not_finite 0 vectors) found ∙ sym (ask_finite_first refusal 0 vectors)
  where
    go : (first : Option ℕ) → MatchOption first (verdict ≡ Passed) (λ number. IsErrAnd verdict (λ said. said ≡ refusal number)) → verdict ≡ refused_at refusal first
    go None e = e
    go (Some number) e =
        let p = err_from_is_err_and verdict e in
        rw (p.1, p.2)
