-- The remainder of two finite values, counted in quanta of 2^-1074: it has the sign of the first, and its size is what is left of the one number of quanta divided by the other.
use Rattle.std.specs.Prelude.{◌≡◌, ◌⊎◌, ℕ, zero, suc, ◌+◌, ◌-◌, ◌*◌, ◌/◌, ◌%◌, ◌^◌, ◌≤◌, ◌<◌, Bool, true, false, not, cond, T, ℤ, leb, ltb, Float}
use Rattle.std.proofs.Common.{min, le_trans, lt_of_lt_of_le, lt_of_not-le, not-le_of_lt, le_of_eq, refl, sym, ap, subst, ◌∙◌, arith, add-one, zero-add, mul-one, ltb→lt, nltb→le, leb→le, inl, inr, lt_irrefl, lt_trans, zero-lt-suc, zero-le, zero-mul, lt_of_le_of_lt, mul-div_cancel, mul-pos, mul_assoc, mul_comm, mul_right_comm, mod-lt, mod-eq_of_lt, pow_pos, pow-add}
use Rattle.std.proofs.Math.Arith.{mod-mul}
use Rattle.std.proofs.Math.Nat.{mul-mod_left, mod-eq-sub-mod, pow-suc, eq_of_mul-eq-mul_right}
use Rattle.std.proofs.lemmas.Nat.{mul-mod_first}
use Rattle.std.proofs.Math.Nat.{mul-le-mul_right, mul-lt-mul_of_pos_right}
use Rattle.std.proofs.Math.Pow.{pow_mono}
use Rattle.std.specs.Int.Count.{count_leading_zeros}
use Rattle.std.proofs.lemmas.Nat.{leading_top}
use Rattle.std.proofs.lemmas.Bool.{cases_lt}
use borrow.Author.Tests.{le-leb, lt-leb, ne_eqb}
use Rattle.std.proofs.Math.Dec.{nleb→lt}
use Rattle.std.specs.Float.{nan, inf, fin, binary64}
use Rattle.std.specs.Float.Ieee.{up, down, size, rem, round, fits, is_nan, to_bits, of_bits}
use Rattle.std.specs.Float.Ieee.Bits.{of_bits-to_bits, to_bits-of_bits, to_bits-lt, of_bits-fits, nan_bits_is}
use Rattle.std.proofs.lemmas.Float.{not_nan_f64_bits}
use Rattle.std.specs.Float.Ieee.Exact.{round_exact}
use Rattle.std.specs.Float.Ieee.Fits.{up_pos, down_pos, rem-fits}
use Rattle.std.specs.Float.Ieee.Scale.{round_same}
use Rattle.float.specs.TotalOrder.{negative}
use Rattle.float.specs.laws.OrderTheorems.Value.{Is, Size, of_finite}
use Rattle.float.specs.laws.OrderTheorems.Pattern.{magnitude, sign_bit, rest, of_pattern, infinite_pattern, infinity_magnitude, magnitude_grows, magnitude_subnormal, magnitude_normal}

-- ---- whole numbers

-- a factor that both have
pub scaled_mod : (x m c : ℕ) → 0 < m → 0 < c → x * c % (m * c) ≡ x % m * c
scaled_mod x m c a b = mod-mul (x * c) a b ∙ rw (mul-div_cancel x b, mul-mod_left x c) (omega arith)

-- one binary digit more, which is taken off where it makes another whole divisor
doubled : (m i n : ℕ) → m * 2 ^ (i + 1) % n ≡ m * 2 ^ i % n * 2 % n
doubled m i n = rw (add-one, pow-suc, ← (mul_assoc m (2 ^ i) 2)) (sym (mul-mod_first (m * 2 ^ i) 2 n))

pub doubled_below : (m i n r : ℕ) → r ≡ m * 2 ^ i % n → r * 2 < n → r * 2 ≡ m * 2 ^ (i + 1) % n
doubled_below m i n r e h = sym (doubled m i n ∙ ap (λ x. x * 2 % n) (sym e) ∙ mod-eq_of_lt h)

pub doubled_above : (m i n r : ℕ) → r ≡ m * 2 ^ i % n → r < n → n ≤ r * 2 → r * 2 - n ≡ m * 2 ^ (i + 1) % n
doubled_above m i n r e l h =
    let rest : r * 2 - n < n = omega arith in
    sym (doubled m i n ∙ ap (λ x. x * 2 % n) (sym e) ∙ mod-eq-sub-mod h ∙ mod-eq_of_lt rest)

-- ---- digits moved up by some places, as far as the exponent allows, at most until there are 53
pub record Placed (m e i : ℕ) : Type 0 where
  pub moved : m * 2 ^ i % 2 ^ 64 ≡ m * 2 ^ i
  pub few : m * 2 ^ i < 2 ^ 53
  pub leading : (e - i ≡ 0) ⊎ (2 ^ 52 ≤ m * 2 ^ i)
  pub same : m * 2 ^ i * 2 ^ (e - i) ≡ m * 2 ^ e

few_digits : (m j i : ℕ) → m < 2 ^ suc j → j + i ≤ 52 → m * 2 ^ i < 2 ^ 53
few_digits m j i h l = lt_of_lt_of_le (mul-lt-mul_of_pos_right h (pow_pos i)) (le_trans (le_of_eq (sym (pow-add 2 (suc j) i))) (pow_mono {i = suc j + i} {j = 53} (omega arith)))

many_digits : (m j i : ℕ) → 2 ^ j ≤ m → 52 ≤ j + i → 2 ^ 52 ≤ m * 2 ^ i
many_digits m j i h l = le_trans (pow_mono l) (le_trans (le_of_eq (pow-add 2 j i)) (mul-le-mul_right (2 ^ i) h))

top_digit : (m : ℕ) → 0 < m → m < 2 ^ 53 → (j : ℕ) × (count_leading_zeros 64 m + suc j ≡ 64) × (2 ^ j ≤ m) × (m < 2 ^ suc j) × (j < 53)
top_digit m z h =
    let t = leading_top 64 m z (omega arith) in
    (t.0, t.1, t.2, t.3, lt_of_not-le (λ (n : 53 ≤ t.0). not-le_of_lt h (le_trans (pow_mono n) t.2)))

pub places_fit : (m : ℕ) → 0 < m → m < 2 ^ 53 → 11 ≤ count_leading_zeros 64 m
places_fit m z h = let t = top_digit m z h in omega arith

pub placed : (m e i n : ℕ) → 0 < m → m < 2 ^ 53 → n ≡ count_leading_zeros 64 m → i ≡ min e (n - 11) → Placed m e i
placed m e i n z h c k =
    let t = top_digit m z h in
    let few = few_digits m t.0 i t.3 (omega arith) in
    let split : e ≡ i + (e - i) = omega arith in
    record {
      moved = mod-eq_of_lt (omega arith);
      few = few;
      leading = elim (cases_lt i e) [ inl l ↦ inr (many_digits m t.0 i t.2 (omega arith)) | inr l ↦ inl (omega arith) ];
      same = mul_assoc m (2 ^ i) (2 ^ (e - i)) ∙ ap (λ x. m * x) (sym (pow-add 2 i (e - i))) ∙ ap (λ x. m * 2 ^ x) (sym split);
    }

-- ---- the magnitude of a pattern by its digits and its exponent

leading : (e m : ℕ) → 2 ^ 52 ≤ m → m < 2 ^ 53 → magnitude (e * 2 ^ 52 + m) ≡ m * 2 ^ e
leading e m l h =
    let a = e * 2 ^ 52 + m in
    let digits : 2 ^ 52 + a % 2 ^ 52 ≡ m = omega arith in
    let field : a / 2 ^ 52 + 1073 ≡ e + 1074 = omega arith in
    eq_of_mul-eq-mul_right (2 ^ 1074) (pow_pos 1074) (magnitude a) (m * 2 ^ e)
    (magnitude_normal a (omega arith) ∙ rw (digits, field, pow-add 2 e 1074) (sym (mul_assoc m (2 ^ e) (2 ^ 1074))))

lowest : (m : ℕ) → m < 2 ^ 53 → (b : Bool) → (T b → m < 2 ^ 52) → (T (not b) → 2 ^ 52 ≤ m) → magnitude m ≡ m
lowest m h true l _ = magnitude_subnormal m (l tt)
lowest m h false _ l = subst (λ a. magnitude a ≡ m) (zero-add m) (leading 0 m (l tt) h ∙ mul-one m)

pub magnitude_parts : (e m : ℕ) → m < 2 ^ 53 → (e ≡ 0) ⊎ (2 ^ 52 ≤ m) → magnitude (e * 2 ^ 52 + m) ≡ m * 2 ^ e
magnitude_parts e m h (inr l) = leading e m l h
magnitude_parts e m h (inl z) = rw (z, zero-add m) (lowest m h (ltb m (2 ^ 52)) (ltb→lt m (2 ^ 52)) (nltb→le m (2 ^ 52)) ∙ sym (mul-one m))

no_size : magnitude 0 ≡ 0
no_size = magnitude_subnormal 0 (omega arith)

pub no_parts : (m e : ℕ) → m ≡ 0 → magnitude 0 ≡ m * 2 ^ e
no_parts m e z = rw (z, zero-mul) no_size

pub parts_size : (p e m : ℕ) → p ≡ e * 2 ^ 52 + m → m < 2 ^ 53 → (e ≡ 0) ⊎ (2 ^ 52 ≤ m) → magnitude p ≡ m * 2 ^ e
parts_size p e m j h l = rw j (magnitude_parts e m h l)

-- of two patterns the lower has no higher exponent
pub ordered : (p e m q d n : ℕ) → p ≡ e * 2 ^ 52 + m → q ≡ d * 2 ^ 52 + n → m < 2 ^ 53 → (d ≡ 0) ⊎ (2 ^ 52 ≤ n) → q ≤ p → d ≤ e
ordered p e m q d n i j h (inl z) l = omega arith
ordered p e m q d n i j h (inr z) l = omega arith

pub has_size : (q d n : ℕ) → q ≡ d * 2 ^ 52 + n → (d ≡ 0) ⊎ (2 ^ 52 ≤ n) → 0 < q → 0 < n
has_size q d n j (inl z) l = omega arith
has_size q d n j (inr z) l = omega arith

pub left_few : (r x n w : ℕ) → r ≡ x % n → 0 < n → n < w → r < w
left_few r x n w e h l = rw e (lt_trans (mod-lt x h) l)

-- what is left of two sizes, the exponent of the second taken out
pub left_parts : (u v m e n d r : ℕ) → u ≡ m * 2 ^ e → v ≡ n * 2 ^ d → d ≤ e → 0 < n → r ≡ m * 2 ^ (e - d) % n → u % v ≡ r * 2 ^ d
left_parts u v m e n d r i j l h k =
    let split : e ≡ e - d + d = omega arith in
    let apart : u ≡ m * 2 ^ (e - d) * 2 ^ d = i ∙ ap (λ x. m * 2 ^ x) split ∙ ap (λ x. m * x) (pow-add 2 (e - d) d) ∙ sym (mul_assoc m (2 ^ (e - d)) (2 ^ d)) in
    rw (apart, j) (scaled_mod (m * 2 ^ (e - d)) n (2 ^ d) h (pow_pos d) ∙ ap (λ x. x * 2 ^ d) (sym k))

-- ---- two finite values of one sign and one size are one

bits_of : Bool → ℕ → ℕ
bits_of s n = cond s (2 ^ 63) 0 + (size n - 53) * 2 ^ 52 + n / 2 ^ (size n - 53)

bits_are : (x : Float) (s : Bool) (n : ℕ) → n < 2 ^ 2098 → Is x s n → to_bits binary64 x ≡ bits_of s n
unfolding bits_of to_bits negative
bits_are nan s n l i = absurd i.size
bits_are (inf t) s n l i = absurd (lt_irrefl (2 ^ 2098) (subst (λ k. k < 2 ^ 2098) i.size l))
bits_are (fin t m e) s n l i =
    let whole : m * up e * 2 ^ 1074 / down e ≡ n = ap (λ a. a / down e) i.size.0 ∙ mul-div_cancel n (down_pos e) in
    rw (whole, i.sign)

pub one_value : (x y : Float) (s : Bool) (n : ℕ) → T (fits binary64 x) → T (fits binary64 y) → n < 2 ^ 2098 → Is x s n → Is y s n → x ≡ y
one_value x y s n fx fy l i j =
    sym (of_bits-to_bits binary64 x fx) ∙ ap (of_bits binary64) (bits_are x s n l i ∙ sym (bits_are y s n l j)) ∙ of_bits-to_bits binary64 y fy

-- ---- the remainder of two finite values

-- the fraction that the definition rounds, over a common divisor
common : (a b c d e u v : ℕ) → 0 < b * e → 0 < c → 0 < v → 0 < e * d → a * c ≡ u * e → b * c ≡ v * d → a * d % (b * e) * c ≡ u % v * (e * d)
common a b c d e u v be c0 v0 ed p q =
    let left : a * d * c ≡ u * (e * d) = mul_right_comm a d c ∙ ap (λ k. k * d) p ∙ mul_assoc u e d in
    let right : b * e * c ≡ v * (e * d) = mul_right_comm b e c ∙ ap (λ k. k * e) q ∙ mul_assoc v d e ∙ ap (λ k. v * k) (mul_comm d e) in
    sym (scaled_mod (a * d) (b * e) c be c0) ∙ rw (left, right) (scaled_mod u v (e * d) v0 ed)

-- a number of quanta that is not zero has digits
has_digits : (n k c d v : ℕ) → n * k * c ≡ v * d → 0 < v → 0 < d → 0 < n
has_digits zero k c d v e a b = absurd (lt_irrefl 0 (subst (λ x. 0 < x) (sym e ∙ rw (zero-mul, zero-mul)) (mul-pos a b)))
has_digits (suc n) k c d v e a b = zero-lt-suc n

module _ (s : Bool) (m : ℕ) (e : ℤ) (t : Bool) (n : ℕ) (d : ℤ) (u v : ℕ) (sized : Size (fin s m e) u) (by : Size (fin t n d) v) (above : 0 < v) where
  divisor : 0 < n
  divisor = has_digits n (up d) (2 ^ 1074) (down d) v by.0 above (down_pos d)

  rounded : rem binary64 (fin s m e) (fin t n d) ≡ round binary64 s (u % v) (2 ^ 1074)
  unfolding rem
  rounded =
      let whole : 0 < down e * down d = mul-pos (down_pos e) (down_pos d) in
      rw (ne_eqb n 0 (omega (arith, divisor)))
      (round_same binary64 s (m * up e * down d % (n * up d * down e)) (down e * down d) (u % v) (2 ^ 1074) whole (pow_pos 1074)
      (common (m * up e) (n * up d) (2 ^ 1074) (down d) (down e) u v (mul-pos (mul-pos divisor (up_pos d)) (down_pos e)) (pow_pos 1074) above whole sized.0 by.0))

  pub rem_is : (q j : ℕ) → q < 2 ^ 53 → u % v ≡ q * 2 ^ j → Is (rem binary64 (fin s m e) (fin t n d)) s (u % v)
  rem_is q j few left =
      let small : u % v < 2 ^ 2098 = lt_trans (mod-lt u above) by.1 in
      rw rounded (of_finite (round binary64 s (u % v) (2 ^ 1074)) s (u % v)
      (round_exact binary64 s (u % v) (2 ^ 1074) q j (pow_pos 1074) few (subst (λ k. k < 2 ^ 2098) left small) (ap (λ k. k * 2 ^ 1074) left)) small)

-- ---- by the cases of the values

pub rem_of_nan : (b : Float) → nan ≡ rem binary64 nan b
unfolding rem
rem_of_nan b = refl

pub rem_by_nan : (a : Float) → rem binary64 a nan ≡ nan
unfolding rem
rem_by_nan nan = refl
rem_by_nan (inf s) = refl
rem_by_nan (fin s m e) = refl

rem_by_none : (a : Float) (t : Bool) (d : ℤ) → rem binary64 a (fin t 0 d) ≡ nan
unfolding rem
rem_by_none nan t d = refl
rem_by_none (inf s) t d = refl
rem_by_none (fin s m e) t d = refl

no_digits : (n k c d : ℕ) → n * k * c ≡ 0 * d → 0 < k → 0 < c → n ≡ 0
no_digits zero k c d e a b = refl
no_digits (suc n) k c d e a b = absurd (lt_irrefl 0 (subst (λ x. 0 < x) (e ∙ zero-mul d) (mul-pos (mul-pos (zero-lt-suc n) a) b)))

rem_by_zero : (a b : Float) (t : Bool) → Is b t 0 → rem binary64 a b ≡ nan
rem_by_zero a nan t i = absurd i.size
rem_by_zero a (inf s) t i = absurd (lt_irrefl 0 (subst (λ k. 0 < k) (sym i.size) (pow_pos 2098)))
rem_by_zero a (fin s n d) t i =
    let none : n ≡ 0 = no_digits n (up d) (2 ^ 1074) (down d) i.size.0 (up_pos d) (pow_pos 1074) in
    rw none (rem_by_none a s d)

by_infinity : (a : Float) (s t : Bool) (u : ℕ) → Is a s u → u < 2 ^ 2098 → a ≡ rem binary64 a (inf t)
unfolding rem
by_infinity nan s t u i l = absurd i.size
by_infinity (inf r) s t u i l = absurd (lt_irrefl (2 ^ 2098) (subst (λ k. k < 2 ^ 2098) i.size l))
by_infinity (fin r m e) s t u i l = refl

by_finite : (a b r : Float) (s t : Bool) (u v q j : ℕ) → Is a s u → Is b t v → u < 2 ^ 2098 → v < 2 ^ 2098 → 0 < v
    → T (fits binary64 a) → T (fits binary64 r) → q < 2 ^ 53 → u % v ≡ q * 2 ^ j → Is r s (u % v) → r ≡ rem binary64 a b
by_finite nan b r s t u v q j ia ib lu lv above fa fr few left ir = absurd ia.size
by_finite (inf k) b r s t u v q j ia ib lu lv above fa fr few left ir = absurd (lt_irrefl (2 ^ 2098) (subst (λ k. k < 2 ^ 2098) ia.size lu))
by_finite (fin k m e) nan r s t u v q j ia ib lu lv above fa fr few left ir = absurd ib.size
by_finite (fin k m e) (inf k') r s t u v q j ia ib lu lv above fa fr few left ir = absurd (lt_irrefl (2 ^ 2098) (subst (λ k. k < 2 ^ 2098) ib.size lv))
by_finite (fin k m e) (fin k' n d) r s t u v q j ia ib lu lv above fa fr few left ir =
    let sign : k ≡ s = unfold negative in ia.sign in
    let found = rem_is k m e k' n d u v ia.size ib.size above q j few left in
    one_value r (rem binary64 (fin k m e) (fin k' n d)) s (u % v) fr (rem-fits binary64 (fin k m e) (fin k' n d) fa) (lt_trans (mod-lt u above) lv) ir
    (subst (λ z. Is (rem binary64 (fin k m e) (fin k' n d)) z (u % v)) sign found)

-- ---- by the patterns

finite_size : (p : ℕ) → p < 2047 * 2 ^ 52 → magnitude p < 2 ^ 2098
finite_size p h = subst (λ k. magnitude p < k) infinity_magnitude (magnitude_grows p (2047 * 2 ^ 52) h)

same_sign : (x p : ℕ) → x < 2 ^ 64 → p < 2 ^ 63 → leb (2 ^ 63) (x - x % 2 ^ 63 + p) ≡ leb (2 ^ 63) x
same_sign x p l h = go (leb (2 ^ 63) x) (leb→le (2 ^ 63) x) (nleb→lt (2 ^ 63) x)
  where
    go : (b : Bool) → (T b → 2 ^ 63 ≤ x) → (T (not b) → x < 2 ^ 63) → leb (2 ^ 63) (x - x % 2 ^ 63 + p) ≡ b
    go true f _ = let g = f tt in le-leb (2 ^ 63) (x - x % 2 ^ 63 + p) (omega arith)
    go false _ f = let g = f tt in lt-leb (2 ^ 63) (x - x % 2 ^ 63 + p) (omega arith)

module _ (a b : Float) (fa : T (fits binary64 a)) (fb : T (fits binary64 b)) (na : T (not (is_nan a))) (nb : T (not (is_nan b))) where
  pub infinite : 2047 * 2 ^ 52 ≤ rest a → rem binary64 a b ≡ nan
  infinite h = rw (infinite_pattern a fa na h) (unfold rem in refl)

  pub by_zero : rest b ≡ 0 → rem binary64 a b ≡ nan
  by_zero h = rem_by_zero a b (sign_bit b) (rw (h, no_size) at (of_pattern b fb nb))

  module _ (finite : rest a < 2047 * 2 ^ 52) where
    of_a : Is a (sign_bit a) (magnitude (rest a))
    of_a = of_pattern a fa na

    -- nothing is taken off
    pub smaller : rest a < rest b → (q j : ℕ) → q < 2 ^ 53 → magnitude (rest a) ≡ q * 2 ^ j → rem binary64 a b ≡ a
    smaller h q j few parts = go (ltb (rest b) (2047 * 2 ^ 52)) (ltb→lt (rest b) (2047 * 2 ^ 52)) (nltb→le (rest b) (2047 * 2 ^ 52))
      where
        u : ℕ
        u = magnitude (rest a)

        v : ℕ
        v = magnitude (rest b)

        more : u < v
        more = magnitude_grows (rest a) (rest b) h

        go : (f : Bool) → (T f → rest b < 2047 * 2 ^ 52) → (T (not f) → 2047 * 2 ^ 52 ≤ rest b) → rem binary64 a b ≡ a
        go true l _ =
            let kept : u % v ≡ u = mod-eq_of_lt more in
            sym (by_finite a b a (sign_bit a) (sign_bit b) u v q j of_a (of_pattern b fb nb) (finite_size (rest a) finite) (finite_size (rest b) (l tt))
            (lt_of_le_of_lt zero-le more) fa fa few (kept ∙ parts) (rw kept of_a))
        go false _ l = rw (infinite_pattern b fb nb (l tt)) (sym (by_infinity a (sign_bit a) (negative b) u of_a (finite_size (rest a) finite)))

    -- the pattern of what is left, under the sign of the first
    pub left_over : 0 < rest b → rest b < 2047 * 2 ^ 52 → (q j : ℕ) → q < 2 ^ 53 → magnitude (rest a) % magnitude (rest b) ≡ q * 2 ^ j
        → (p : ℕ) → p < 2047 * 2 ^ 52 → magnitude p ≡ q * 2 ^ j → of_bits binary64 (to_bits binary64 a - rest a + p) ≡ rem binary64 a b
    left_over above below q j few left p fits size =
        let bits = to_bits binary64 a - rest a + p in
        let wide : to_bits binary64 a < 2 ^ 64 = to_bits-lt binary64 a fa in
        let own : bits % 2 ^ 63 ≡ p = omega arith in
        let number : T (not (is_nan (of_bits binary64 bits))) = rw (nan_bits_is binary64 bits) at (not_nan_f64_bits bits (omega arith)) in
        let r = of_bits binary64 bits in
        let back : to_bits binary64 r ≡ bits = to_bits-of_bits binary64 bits (omega arith) number in
        let sign : leb (2 ^ 63) bits ≡ sign_bit a = same_sign (to_bits binary64 a) p wide (omega arith) in
        let found : Is r (sign_bit a) (magnitude (rest a) % magnitude (rest b)) = rw (left, ← size) (rw (back, own, sign) at (of_pattern r (of_bits-fits binary64 bits) number)) in
        by_finite a b r (sign_bit a) (sign_bit b) (magnitude (rest a)) (magnitude (rest b)) q j of_a (of_pattern b fb nb) (finite_size (rest a) finite) (finite_size (rest b) below)
        (lt_of_le_of_lt zero-le (magnitude_grows 0 (rest b) above)) fa (of_bits-fits binary64 bits) few left found
