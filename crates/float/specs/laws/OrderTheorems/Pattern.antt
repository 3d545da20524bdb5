-- The sign and the magnitude of a value are read off its bit pattern, and the magnitude grows with the pattern: the higher exponent's field decides, and in one field the digits.
-- The argument goes from the pattern to the value (`of_bits`), so no count of digits is needed.
use Rattle.std.specs.Prelude.{◌≢◌, ◌≡◌, Bool, true, not, cond, T, leb, ltb, eqb, Float}
use Rattle.std.proofs.Common.{inl, inr, sym, ap, subst₂, ◌∙◌, le_of_eq, le_of_lt, lt_irrefl, eq-or-lt_of_le, not-suc-le-zero, le_of_suc-le-suc, le_trans, lt_of_lt_of_le, le-add_right, mul-le-mul_left, mul-le-mul_right, mul-lt-mul_of_pos_right, mul-one, mul_assoc, mod-lt, arith, ltb→lt, nltb→le, pow_pos, pow_mono, pow-add}
use Rattle.std.proofs.Math.Path.{refl}
use Prim.Native.Nat.{ℕ, zero, suc, ◌+◌, ◌*◌, ◌-◌, ◌/◌, ◌%◌, ◌^◌, ◌≤◌, ◌<◌}
use Rattle.std.proofs.Math.Nat.{pow-succ'}
use Rattle.std.proofs.Math.Bool.{false}
use borrow.Author.Tests.{eqb-true, eqb-false}
use Rattle.std.specs.Float.{nan, inf, fin, binary64}
use Rattle.std.specs.Float.Ieee.{below, lt, odd, fits, is_nan, of_fields, of_bits, to_bits}
use Rattle.std.specs.Float.Ieee.Bits.{of_bits-to_bits}
use Rattle.std.specs.Float.Ieee.Exact.{odd_sign}
use Rattle.std.specs.Float.Ieee.Scale.{finite}
use Rattle.float.specs.Quanta.{quanta}
use Rattle.float.specs.TotalOrder.{negative}
use Rattle.float.specs.laws.OrderTheorems.Signed.{below_grows}
use Rattle.float.specs.laws.OrderTheorems.Value.{Is, Size, lt_size, of_finite, of_infinity, quanta_size}

-- the magnitude that an exponent's field f and the digits t stand for
number : ℕ → ℕ → ℕ
number zero t = t
number (suc f) t = (2 ^ 52 + t) * 2 ^ f

number_above : (f t : ℕ) → t < 2 ^ 52 → number f t < 2 ^ 52 * 2 ^ f
unfolding number
number_above zero t h = h
number_above (suc f) t h =
    let k : 2 ^ 52 + t < 2 ^ 52 * 2 = omega arith in
    rw (pow-succ' 2 f) (rw mul_assoc at (mul-lt-mul_of_pos_right k (pow_pos f)))

number_below : (f g u : ℕ) → f < g → 2 ^ 52 * 2 ^ f ≤ number g u
unfolding number
number_below f zero u h = absurd (not-suc-le-zero h)
number_below f (suc g) u h = le_trans (mul-le-mul_left (2 ^ 52) (pow_mono (le_of_suc-le-suc h))) (mul-le-mul_right (2 ^ g) (le-add_right (2 ^ 52) u))

number_digits : (f t u : ℕ) → t < u → number f t < number f u
unfolding number
number_digits zero t u h = h
number_digits (suc f) t u h = mul-lt-mul_of_pos_right {m = 2 ^ 52 + t} {n = 2 ^ 52 + u} (omega arith) (pow_pos f)

number_lt : (f t g u : ℕ) → t < 2 ^ 52 → u < 2 ^ 52 → f * 2 ^ 52 + t < g * 2 ^ 52 + u → number f t < number g u
number_lt f t g u h k l = go (ltb f g) (ltb→lt f g) (nltb→le f g)
  where
    go : (b : Bool) → (T b → f < g) → (T (not b) → g ≤ f) → number f t < number g u
    go true a _ = lt_of_lt_of_le (number_above f t h) (number_below f g u (a tt))
    go false _ a =
        let b : g ≤ f = a tt in
        let e : f ≡ g = omega arith in
        rw e (number_digits g t u (omega arith))

-- ---- the magnitude of a pattern without its sign

pub magnitude : ℕ → ℕ
magnitude a = number (a / 2 ^ 52) (a % 2 ^ 52)

pub magnitude_grows : (a b : ℕ) → a < b → magnitude a < magnitude b
unfolding magnitude
magnitude_grows a b h = number_lt (a / 2 ^ 52) (a % 2 ^ 52) (b / 2 ^ 52) (b % 2 ^ 52) (mod-lt a (pow_pos 52)) (mod-lt b (pow_pos 52)) (omega arith)

below_magnitude : (s : Bool) (a : ℕ) (t : Bool) (b : ℕ) → below s (magnitude a) t (magnitude b) ≡ below s a t b
below_magnitude = below_grows magnitude magnitude_grows (unfold magnitude number in refl)

-- ---- a value by its pattern

-- the field 2047 is an infinity's, and the fields below it are the finite values'
number_finite : (f t : ℕ) → f < 2047 → t < 2 ^ 52 → number f t < 2 ^ 2098
unfolding number
number_finite f t h k = lt_of_lt_of_le (number_above f t k) (number_below f 2047 0 h)

of_fields_lem : (s : Bool) (f t : ℕ) → f < 2048 → t < 2 ^ 52 → T (not (is_nan (of_fields binary64 s f t))) → Is (of_fields binary64 s f t) s (number f t)
unfolding of_fields number
of_fields_lem s zero t k h n = of_finite (odd 53 s t 0 1074) s t (rw (mul-one t) at (odd_sign 53 s t 0 1074)) (number_finite 0 t (omega arith) h)
of_fields_lem s (suc f) t k h n = go (eqb (suc f) 2047) (eqb t 0) refl refl n
  where
    go : (b c : Bool) → eqb (suc f) 2047 ≡ b → eqb t 0 ≡ c
        → T (not (is_nan (cond b (cond c (inf s) nan) (odd 53 s (2 ^ 52 + t) f 1074)))) → Is (cond b (cond c (inf s) nan) (odd 53 s (2 ^ 52 + t) f 1074)) s ((2 ^ 52 + t) * 2 ^ f)
    go true true p q _ =
        let e : suc f ≡ 2047 = eqb-true (suc f) 2047 p in
        let i : f ≡ 2046 = omega arith in
        of_infinity s ((2 ^ 52 + t) * 2 ^ f) (rw (eqb-true t 0 q, i))
    go true false p q n = unfold is_nan in absurd n
    go false c p _ _ =
        let e : suc f ≢ 2047 = eqb-false (suc f) 2047 p in
        of_finite (odd 53 s (2 ^ 52 + t) f 1074) s ((2 ^ 52 + t) * 2 ^ f) (odd_sign 53 s (2 ^ 52 + t) f 1074) (number_finite (suc f) t (omega arith) h)

of_bits_lem : (b : ℕ) → T (not (is_nan (of_bits binary64 b))) → Is (of_bits binary64 b) (leb (2 ^ 63) b) (magnitude (b % 2 ^ 63))
unfolding of_bits magnitude
of_bits_lem b n =
    let e : b % 2 ^ 63 % 2 ^ 52 ≡ b % 2 ^ 52 = omega arith in
    rw e (of_fields_lem (leb (2 ^ 63) b) (b % 2 ^ 63 / 2 ^ 52) (b % 2 ^ 52) (omega arith) (mod-lt b (pow_pos 52)) n)

-- the sign's bit of x, and the other bits
abbrev pub sign_bit : Float → Bool
sign_bit x = leb (2 ^ 63) (to_bits binary64 x)

abbrev pub rest : Float → ℕ
rest x = to_bits binary64 x % 2 ^ 63

pub of_pattern : (x : Float) → T (fits binary64 x) → T (not (is_nan x)) → Is x (sign_bit x) (magnitude (rest x))
of_pattern x h n =
    let e : of_bits binary64 (to_bits binary64 x) ≡ x = of_bits-to_bits binary64 x h in
    rw e at (of_bits_lem (to_bits binary64 x) (rw e n))

pub lt_pattern : (x y : Float) → T (fits binary64 x) → T (fits binary64 y) → T (not (is_nan x)) → T (not (is_nan y)) → lt x y ≡ below (sign_bit x) (rest x) (sign_bit y) (rest y)
lt_pattern x y fx fy nx ny =
    let i = of_pattern x fx nx in
    let j = of_pattern y fy ny in
    lt_size x y _ _ i.size j.size ∙ rw (i.sign, j.sign) (below_magnitude (sign_bit x) (rest x) (sign_bit y) (rest y))

-- ---- the size of a finite value, and where the finite ones end

pub infinity_magnitude : magnitude (2047 * 2 ^ 52) ≡ 2 ^ 2098
unfolding magnitude number
infinity_magnitude = refl

pub finite_pattern : (x : Float) → T (fits binary64 x) → T (not (is_nan x)) → rest x < 2047 * 2 ^ 52 → T (finite x)
finite_pattern x h n l = go x (of_pattern x h n).size
  where
    go : (y : Float) → Size y (magnitude (rest x)) → T (finite y)
    go nan k = k
    go (inf s) k = absurd (lt_irrefl (2 ^ 2098) (subst₂ ◌<◌ k infinity_magnitude (magnitude_grows (rest x) (2047 * 2 ^ 52) l)))
    go (fin s m e) k = tt

pub infinite_pattern : (x : Float) → T (fits binary64 x) → T (not (is_nan x)) → 2047 * 2 ^ 52 ≤ rest x → x ≡ inf (negative x)
infinite_pattern x h n l = go x (of_pattern x h n).size
  where
    reaches : 2 ^ 2098 ≤ magnitude (rest x)
    reaches = elim (eq-or-lt_of_le l) [ inl e ↦ le_of_eq (sym infinity_magnitude ∙ ap magnitude e) | inr k ↦ le_trans (le_of_eq (sym infinity_magnitude)) (le_of_lt (magnitude_grows (2047 * 2 ^ 52) (rest x) k)) ]

    go : (y : Float) → Size y (magnitude (rest x)) → y ≡ inf (negative y)
    go nan k = absurd k
    go (inf s) k = unfold negative in refl
    go (fin s m e) k = absurd (lt_irrefl (magnitude (rest x)) (lt_of_lt_of_le k.1 reaches))

pub quanta_pattern : (x : Float) → T (fits binary64 x) → T (finite x) → quanta x ≡ magnitude (rest x)
quanta_pattern nan h f = absurd f
quanta_pattern (inf s) h f = absurd f
quanta_pattern (fin s m e) h f = quanta_size s m e _ (of_pattern (fin s m e) h (unfold is_nan in tt)).size

-- a subnormal value's bits are its size; those of any other are its digits and, in the exponent's field, how often they are doubled
pub magnitude_subnormal : (a : ℕ) → a < 2 ^ 52 → magnitude a ≡ a
unfolding magnitude number
magnitude_subnormal a h =
    let e : a / 2 ^ 52 ≡ 0 = omega arith in
    let d : a % 2 ^ 52 ≡ a = omega arith in
    ap (λ f. number f (a % 2 ^ 52)) e ∙ d

pub magnitude_normal : (a : ℕ) → 2 ^ 52 ≤ a → magnitude a * 2 ^ 1074 ≡ (2 ^ 52 + a % 2 ^ 52) * 2 ^ (a / 2 ^ 52 + 1073)
unfolding magnitude number
magnitude_normal a h =
    let f = a / 2 ^ 52 - 1 in
    let e : a / 2 ^ 52 ≡ suc f = omega arith in
    let i : f + 1074 ≡ a / 2 ^ 52 + 1073 = omega arith in
    ap (λ k. number k (a % 2 ^ 52) * 2 ^ 1074) e
    ∙ mul_assoc (2 ^ 52 + a % 2 ^ 52) (2 ^ f) (2 ^ 1074)
    ∙ ap (λ k. (2 ^ 52 + a % 2 ^ 52) * k) (sym (pow-add 2 f 1074))
    ∙ ap (λ k. (2 ^ 52 + a % 2 ^ 52) * 2 ^ k) i
