-- Questions asked in their order: the first that says no decides (document 01, 'Answers, and the questions asked first'). Definitions only.
use Rattle.std.specs.Prelude.{ℕ, Bool, cond, List, [], Result, Ok, Err}
use Rattle.refusal.specs.declared.Refusal.{Refusal}
use Rattle.refusal.specs.Numbers.{code}

-- what a block of questions says: that all of them pass, or the first refusal
abbrev pub Verdict : Type 0
Verdict = Result (Unit {0}) Refusal

abbrev pub Passed : Verdict
Passed = Ok tt

-- a question: if its answer is no, the refusal
abbrev pub ask : Bool → Refusal → Verdict
ask passed refusal = cond passed Passed (Err refusal)

-- the first verdict if it is a refusal, else the second
abbrev pub then : Verdict → Verdict → Verdict
then (Ok passed) next = next
then (Err refusal) next = Err refusal

-- what a call answers: the refusal, or what it gives if all questions pass
abbrev pub answered : {A : Type 0} → Verdict → A → Result A Refusal
answered (Ok passed) answer = Ok answer
answered (Err refusal) answer = Err refusal

-- the number that a C function returns: the refusal's, or else its answer
abbrev pub returned : Verdict → ℕ → ℕ
returned (Ok passed) answer = answer
returned (Err refusal) answer = code refusal

-- the same of what was answered: the number, or the refusal's
abbrev pub number_of : Result ℕ Refusal → ℕ
number_of (Ok answer) = answer
number_of (Err refusal) = code refusal

-- what is written into a buffer: nothing if a question refuses
unfoldable pub written : {A : Type 0} → Verdict → List A → List A
written (Ok passed) list = list
written (Err refusal) list = []
