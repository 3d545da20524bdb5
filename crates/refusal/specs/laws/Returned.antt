-- The laws of the number that a C function returns for what was answered.
use Rattle.std.specs.Prelude.{ℕ, ◌≡◌, Result, Ok, Err, MatchResult, IsOkAnd}
use Rattle.refusal.specs.declared.Refusal.{Refusal}
use Rattle.refusal.specs.Verdicts.{Verdict, answered, returned, number_of}

module _ {A : Type 0} {Gives : A → ℕ → Type 0} (number : A → ℕ) (gives : (x : A) (n : ℕ) → Gives x n → n ≡ number x) where
  number_given : (x : A) (said : Result ℕ Refusal) → IsOkAnd said (Gives x) → number_of said ≡ number x
  number_given x (Ok n) h = gives x n h
  number_given x (Err refusal) none = absurd none

  -- an answer that is given a number
  pub number_answered : (v : Verdict) (answer : A) (found : Result A Refusal) (said : Result ℕ Refusal) → found ≡ answered v answer
      → MatchResult found (λ x. IsOkAnd said (Gives x)) (λ refusal. said ≡ Err refusal) → number_of said ≡ returned v (number answer)
  number_answered (Ok passed) answer found said e h = number_given answer said (rw e at h)
  number_answered (Err refusal) answer found said e h = rw (rw e at h)

-- a verdict whose pass is given a number
pub number_verdict : {Gives : Unit {0} → ℕ → Type 0} (answer : ℕ) → ((passed : Unit {0}) (n : ℕ) → Gives passed n → n ≡ answer) → (verdict : Verdict) (said : Result ℕ Refusal)
    → MatchResult verdict (λ passed. IsOkAnd said (Gives passed)) (λ refusal. said ≡ Err refusal) → number_of said ≡ returned verdict answer
number_verdict answer gives (Ok passed) said h = number_given (λ x. answer) gives passed said h
number_verdict answer gives (Err refusal) said e = rw e
