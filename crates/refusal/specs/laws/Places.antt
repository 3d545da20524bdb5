-- A number that a C function returns can be read back: an answer is below 1,000,000, and so is the place of a refusal (`Below`).
-- The laws by which the places of questions asked in their order are bounded.
use Rattle.std.specs.Prelude.{ℕ, ◌/◌, ◌%◌, ◌<◌, ◌≡◌, refl, Bool, true, false, Ok, Err}
use Rattle.std.proofs.Common.{arith, ap}
use Rattle.refusal.specs.declared.Refusal.{Refusal}
use Rattle.refusal.specs.Numbers.{number, place}
use Rattle.refusal.specs.laws.NumberLaws.{code_number, code_place}
use Rattle.refusal.specs.Verdicts.{Passed, Verdict, ask, then, returned}

-- the place of a refusal is below 1,000,000
abbrev pub Below : Verdict → Type 0
Below v = (refusal : Refusal) → v ≡ Err refusal → place refusal < 1000000

-- an accepted call's number is its answer, and no refusal's
pub read_answer : (v : Verdict) (answer : ℕ) → v ≡ Passed → answer < 1000000 → (returned v answer ≡ answer) × (returned v answer / 1000000 ≡ 0)
read_answer v answer e h = rw e (refl, omega arith)

-- a refused call's number has the refusal's number and place
pub read_refusal : (v : Verdict) (answer : ℕ) (refusal : Refusal) → v ≡ Err refusal → Below v → (returned v answer / 1000000 ≡ number refusal) × (returned v answer % 1000000 ≡ place refusal)
read_refusal v answer refusal e b = rw e (code_number refusal (b refusal e), code_place refusal (b refusal e))

-- ---- blocks of questions

-- the place that a verdict names, 0 if it passed
abbrev place_in : Verdict → ℕ
place_in (Ok passed) = 0
place_in (Err refusal) = place refusal

pub below_passed : Below Passed
below_passed other e =
    let same : 0 ≡ place other = ap place_in e in
    omega (arith, same)

pub below_refused : (refusal : Refusal) → place refusal < 1000000 → Below (Err refusal)
below_refused refusal h other e =
    let same : place refusal ≡ place other = ap place_in e in
    omega (arith, same, h)

pub below_ask : (passed : Bool) (refusal : Refusal) → place refusal < 1000000 → Below (ask passed refusal)
below_ask true refusal h = below_passed
below_ask false refusal h = below_refused refusal h

pub below_then : (first second : Verdict) → Below first → (first ≡ Passed → Below second) → Below (then first second)
below_then (Ok passed) second a b = b refl
below_then (Err refusal) second a b = a
