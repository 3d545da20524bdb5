-- Rounding keeps the order. A result is (p - n) / c rounded, p, n and c natural numbers and c above 0: a fraction k / c with the sign of p - n,
-- and either sign where p and n are equal. Of two such results the order is the fractions' order: by `lib.Ieee.Order.round_mono` where both are at least 0,
-- by negation where both are at most 0, and through 0 where they lie on two sides.
use Rattle.std.specs.Prelude.{◌≡◌, Bool, true, not, cond, ℕ, zero, suc, ◌+◌, ◌*◌, ◌^◌, ◌≤◌, ◌<◌, T, ltb, pos}
use Rattle.std.proofs.Math.Path.{refl}
use Rattle.std.proofs.Common.{sym, ap, ◌∙◌, add-mul, mul-add, mul_assoc, mul_comm, mul_left_comm, zero-mul, zero-lt-suc, arith}
use Rattle.std.proofs.Math.Bool.{false}
use lib.Ieee.{Float, inf, fin, Format, binary32, binary64, prec, emax, low, odd, units, round, neg, le, is_nan}
use Rattle.std.specs.Float.Ieee.Fits.{round_is}
use lib.Ieee.Order.{round_mono}
use Rattle.std.specs.Float.Ieee.Scale.{round_same}
use Rattle.float.specs.Rules.{zero64}
use Rattle.float.specs.laws.Order.Compare.{none, zeros_le, le_trans, neg_neg, neg_le, le_number_left, le_number_right}

-- ---- the sign of a rounded fraction
odd_neg : (d q k l : ℕ) → odd d true q k l ≡ neg (odd d false q k l)
unfolding odd neg
odd_neg d zero k l = refl
odd_neg d (suc q) k l = refl

units_neg : (f : Format) (q k : ℕ) → units f true q k ≡ neg (units f false q k)
unfolding units
units_neg f q k = go (ltb (q * 2 ^ k) (2 ^ (low f + suc (emax f))))
  where
    go : (b : Bool) → cond b (odd (suc (prec f)) true q k (low f)) (inf true) ≡ neg (cond b (odd (suc (prec f)) false q k (low f)) (inf false))
    go true = odd_neg (suc (prec f)) q k (low f)
    go false = unfold neg in refl

round_neg : (f : Format) (a c : ℕ) → round f true a c ≡ neg (round f false a c)
round_neg f a c = round_is f true a c ∙ units_neg f _ _ ∙ ap neg (sym (round_is f false a c))

pub round_not : (f : Format) (s : Bool) (a c : ℕ) → round f (not s) a c ≡ neg (round f s a c)
round_not f false a c = round_neg f a c
round_not f true a c = sym (ap neg (round_neg f a c) ∙ neg_neg (round f false a c))

pub round_zero : (f : Format) (s : Bool) (c : ℕ) → 0 < c → round f s 0 c ≡ fin s 0 (pos 0)
round_zero f s c C = round_same f s 0 c 0 1 C (zero-lt-suc 0) (sym (zero-mul c)) ∙ at_one f
  where
    at_one : (f : Format) → round f s 0 1 ≡ fin s 0 (pos 0)
    at_one binary32 = unfold round in refl
    at_one binary64 = unfold round in refl

zero_le_round : (f : Format) (a c : ℕ) → 0 < c → T (le zero64 (round f false a c))
zero_le_round f a c C = rw (round_zero f false c C) at (round_mono f 0 c a c C C (omega arith))

round_le_zero : (f : Format) (a c : ℕ) → 0 < c → T (le (round f true a c) (fin true 0 (pos 0)))
round_le_zero f a c C = rw (round_neg f a c) (unfold neg in rw (neg_le zero64 (round f false a c)) (zero_le_round f a c C))

signs_le : (s t : Bool) → T (le (fin s 0 (pos 0)) (fin t 0 (pos 0)))
signs_le s t = zeros_le (fin s 0 (pos 0)) (fin t 0 (pos 0)) (tt, refl) (tt, refl)

round_number : (f : Format) (s : Bool) (a c : ℕ) → 0 < c → T (not (is_nan (round f s a c)))
round_number f false a c C = le_number_right zero64 (round f false a c) (zero_le_round f a c C)
round_number f true a c C = le_number_left (round f true a c) (fin true 0 (pos 0)) (round_le_zero f a c C)

-- with these `simp` multiplies out and sorts, so that `omega` compares products of many factors
pub ruleset ring = (add-mul, mul-add, mul_assoc, mul_comm, mul_left_comm)

-- ---- z is (p - n) / c rounded
abbrev pub Rounded : Format → Float → ℕ → ℕ → ℕ → Type 0
Rounded f z p n c = (s : Bool) × (k : ℕ) × (p + cond s k 0 ≡ n + cond s 0 k) × (z ≡ round f s k c)

pub rounded_number : (f : Format) (z : Float) (p n c : ℕ) → 0 < c → Rounded f z p n c → T (not (is_nan z))
rounded_number f z p n c C r = rw r.3 (round_number f r.0 r.1 c C)

pub rounded_mono : (f : Format) (z : Float) (p n c : ℕ) (z' : Float) (p' n' c' : ℕ) → 0 < c → 0 < c' → Rounded f z p n c → Rounded f z' p' n' c' → p * c' + n' * c ≤ p' * c + n * c' → T (le z z')
rounded_mono f z p n c z' p' n' c' C C' r r' h = rw (r.3, r'.3) (go r.0 r.1 r.2 r'.0 r'.1 r'.2)
  where
    go : (s : Bool) (k : ℕ) → p + cond s k 0 ≡ n + cond s 0 k → (s' : Bool) (k' : ℕ) → p' + cond s' k' 0 ≡ n' + cond s' 0 k' → T (le (round f s k c) (round f s' k' c'))
    go false k e false k' e' = round_mono f k c k' c' C C' (omega (arith, ap (λ (x : ℕ). x * c') e, ap (λ (x : ℕ). x * c) e'))
    go false k e true k' e' =
        let l : k * c' + k' * c ≡ 0 = omega (arith, ap (λ (x : ℕ). x * c') e, ap (λ (x : ℕ). x * c) e') in
        rw (none k c' C' (omega arith), none k' c C (omega arith), round_zero f false c C, round_zero f true c' C') (signs_le false true)
    go true k e false k' e' =
        let l : T (le (round f true k c) zero64) = le_trans (round f true k c) (fin true 0 (pos 0)) zero64 (round_le_zero f k c C) (signs_le true false) in
        le_trans (round f true k c) zero64 (round f false k' c') l (zero_le_round f k' c' C')
    go true k e true k' e' = rw (round_neg f k c, round_neg f k' c', neg_le) (round_mono f k' c' k c C' C (omega (arith, ap (λ (x : ℕ). x * c') e, ap (λ (x : ℕ). x * c) e')))
