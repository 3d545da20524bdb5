-- What a passed question says.
use Rattle.std.specs.Prelude.{◌≡◌, refl, Bool, true, false, ◌&&◌, Ok, Err}
use Rattle.std.proofs.Common.{sym, true≢false}
use Rattle.refusal.specs.declared.Refusal.{Refusal}
use Rattle.refusal.specs.Verdicts.{Verdict, Passed, ask, then, answered}

-- a question that passed was answered with yes
pub ask_passed : (passed : Bool) (refusal : Refusal) → ask passed refusal ≡ Passed → passed ≡ true
ask_passed true refusal e = refl
ask_passed false refusal e = cc

-- two blocks of questions that passed one after the other passed each
pub then_passed : (first second : Verdict) → then first second ≡ Passed → (first ≡ Passed) × (second ≡ Passed)
then_passed (Ok passed) second e = (refl, e)
then_passed (Err refusal) second e = (e, cc)

-- an answer was given: the questions passed, and it is that answer
pub answered_ok : {A : Type 0} (v : Verdict) (answer found : A) → answered v answer ≡ Ok found → (v ≡ Passed) × (found ≡ answer)
answered_ok (Ok passed) answer found e = (refl, cc)
answered_ok (Err refusal) answer found e = (cc, cc)

-- a refusal was answered: a question refused
pub answered_err : {A : Type 0} (v : Verdict) (answer : A) (refusal : Refusal) → answered v answer ≡ Err refusal → v ≡ Err refusal
answered_err (Ok passed) answer refusal e = cc
answered_err (Err other) answer refusal e = cc

-- of two tests that hold together each holds
pub both : (a b : Bool) → a && b ≡ true → (a ≡ true) × (b ≡ true)
both true b e = (refl, e)
both false b e = absurd (true≢false (sym e))
