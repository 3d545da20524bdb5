-- Tests on natural numbers, for the pages on order.
use Rattle.std.specs.Prelude.{◌≡◌, refl, Bool, true, false, ℕ, T, eqb}
use Rattle.std.proofs.Math.Dec.{eqb_refl}
use Rattle.std.proofs.Common.{eqb→eq, leb→le, le→leb}

-- two tests that imply one another are the same
pub same : (a b : Bool) → (T a → T b) → (T b → T a) → a ≡ b
same true true f g = refl
same true false f g = absurd (f tt)
same false true f g = absurd (g tt)
same false false f g = refl

pub eq→eqb : (a b : ℕ) → a ≡ b → T (eqb a b)
eq→eqb a b p = rw p (eqb_refl b)

-- with these `omega` reads the tests of natural numbers and proves them
pub ruleset tests = (leb→le, le→leb, eqb→eq, eq→eqb)
