-- Each turn finds a digit, by whether it is one; after 54 turns half of the root, rounded, is what is asked for. A turn begins with fewer digits, so all that it makes fits.
use Prim.Native.Nat.{ℕ, ◌%◌, ◌^◌, ◌<◌}
use mathlib.Core.Path.{◌≡◌, subst}
use native.Mathlib.Omega.{arith}
use Rattle.sqrt.proofs.DigitRoot.{Digits, zero_digit, one_digit, last_root, root_bound}
use Rattle.sqrt.proofs.significand.by_digits.Goals as goal
use Rattle.sqrt.proofs.significand.by_digits.Goals.{In-loop, then-root-over, else-root-over}

-- a turn begins with so few digits
few : (c : In-loop) → c.loop.root < 2 ^ 53
few c = root_bound _ _ _ _ _ (omega arith) c.loop.invariant

pub overflow_mul-over : goal.overflow_mul-over
overflow_mul-over c = omega (arith, few (goal.at.overflow_mul-over c).In-loop)

pub overflow_add-over : goal.overflow_add-over
overflow_add-over c = omega (arith, few (goal.at.overflow_add-over c).In-loop)

pub overflow_mul-root-in-loop : goal.overflow_mul-root-in-loop
overflow_mul-root-in-loop c = omega (arith, few (goal.at.overflow_mul-root-in-loop c).In-loop)

pub overflow_mul-over-then-root-over : goal.overflow_mul-over-then-root-over
overflow_mul-over-then-root-over c = omega (arith, few (goal.at.overflow_mul-over-then-root-over c).In-loop)

pub overflow_add-over-then-root-over : goal.overflow_add-over-then-root-over
overflow_add-over-then-root-over c = omega (arith, few (goal.at.overflow_add-over-then-root-over c).In-loop)

pub loop-preserved : goal.loop-preserved
loop-preserved c =
    let d = c.loop.invariant in
    elim c.if-root-over.branch [
      | then-root-over w ↦ rw (w.root-is, w.over-is) (one_digit _ _ _ _ _ d w.if-root-over.true)
      | else-root-over w ↦ rw (w.root-is, w.over-is) (zero_digit _ _ _ _ _ d w.if-root-over.false)
    ]

pub returns : goal.returns
returns c =
    let e : c.loop.counter ≡ 54 = omega arith in
    last_root _ _ _ _ (omega arith) (subst (λ (i : ℕ). Digits (c.args.w % 2 ^ 54) i c.loop.rest c.loop.root c.loop.over) e c.loop.invariant)
