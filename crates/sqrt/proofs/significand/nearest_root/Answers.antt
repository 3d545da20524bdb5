-- `significand::nearest_root` meets its contract: both ways give the root of w * 2^52, and w * 2^52 is what the contract names (`doubled`).
use mathlib.Core.Path.{◌≡◌, ap, ◌∙◌}
use Prim.Native.Nat.{ℕ, ◌+◌, ◌*◌, ◌%◌, ◌^◌}
use native.Mathlib.Nat.{mod-eq_of_lt}
use native.Mathlib.Omega.{arith}
use Rattle.std.proofs.Common.{rules}
use Rattle.std.specs.Prelude.{Option, Some, None, MatchOption}
use Rattle.sqrt.specs.Root.{nearest_root}
use Rattle.sqrt.specs.steps.RootSteps.{Finds}
use Rattle.sqrt.proofs.RootBits.{doubled, twice}
use Rattle.sqrt.proofs.significand.nearest_root.Goals as goal

-- by_digits takes 54 digits of its argument, which are all of w
whole : (digits odd : ℕ) → nearest_root ((2 ^ 52 + digits % 2 ^ 52) * (1 + odd % 2) % 2 ^ 54 * 2 ^ 52) ≡ nearest_root ((2 ^ 52 + digits % 2 ^ 52) * (1 + odd % 2) * 2 ^ 52)
whole digits odd = ap (λ (w : ℕ). nearest_root (w * 2 ^ 52)) (mod-eq_of_lt (twice (2 ^ 52 + digits % 2 ^ 52) odd (omega arith)))

-- the root that was found, or that by digits
either : (v r : ℕ) (o : Option ℕ) (none : Type 0) → Finds v o → MatchOption o none (λ x. r ≡ x) → (none → r ≡ nearest_root v) → r ≡ nearest_root v
either v r None none f m h = h m
either v r (Some q) none f m h = m ∙ f

pub returns : goal.returns
returns c =
    let m = 2 ^ 52 + c.args.digits % 2 ^ 52 in
    either (m * (1 + c.args.odd % 2) * 2 ^ 52) _ c.settle_guess.result _ c.settle_guess.ensures c.unwrap_or_else.ensures
    (λ p.
    let d : c.unwrap_or_else.result ≡ nearest_root (m * (1 + c.args.odd % 2) % 2 ^ 54 * 2 ^ 52) = search rules in
    d ∙ whole c.args.digits c.args.odd)
    ∙ ap nearest_root (doubled m c.args.odd)
