-- The square root from a bit pattern. A normal value's digits and exponent are its pattern's fields; a subnormal value's digits are moved up until there are 53. Either way it is m * 2^g / 2^2148
-- with an m of 53 digits, so `root_of_is` gives its root, and the pattern of that root has the root's digits and half of g - 52 in its fields.
use mathlib.Core.Path.{◌≡◌, refl, sym, ap, ◌∙◌, subst}
use mathlib.Core.Bool.{true, false, not, true≢false}
use mathlib.Core.Logic.{◌⊎◌, inl, inr}
use Prim.Native.Nat.{ℕ, suc, ◌+◌, ◌-◌, ◌*◌, ◌/◌, ◌%◌, ◌^◌, ◌≤◌, ◌<◌}
use native.Mathlib.Nat.{lt_of_le_of_lt, mod-eq_of_lt, eq-zero-or-pos, mul_assoc}
use native.Mathlib.Omega.{arith}
use borrow.Author.Tests.{lt-leb, leb-false, ne_eqb}
use lib.Dec.{T, leb}
use lib.Pow.{pow-add}
use lib.Count.{count_leading_zeros, leading_top}
use lib.Ieee.{Float, inf, binary64, odd, lt, fits, is_nan, to_bits, of_bits, of_fields}
use lib.Ieee.Bits.{of_bits-to_bits}
use Rattle.float.specs.Rules.{zero64}
use Rattle.float.specs.laws.Order.{lt_number_right}
use Rattle.float.specs.laws.OrderTheorems.{sign_bit_lem}
use Rattle.float.specs.laws.OrderTheorems.Pattern.{magnitude, rest, finite_pattern, infinite_pattern, quanta_pattern, magnitude_subnormal}
use Rattle.sqrt.specs.Root.{nearest_root, root_of, root}
use Rattle.sqrt.proofs.RootTheorem.Squares.{nearest_low, nearest_high, nearest_root_nearest}
use Rattle.sqrt.proofs.RootTheorem.Cases.{root_positive, positive_sign}
use Rattle.sqrt.proofs.RootTheorem.Scale.{by_parity, scaled_range, root_of_is, moved_up, pow_cancel}

-- the significand, doubled for an odd exponent, has 54 digits at most
pub doubled : (m o : ℕ) → m * (1 + o % 2) * 2 ^ 52 ≡ m * 2 ^ (52 + o % 2)
doubled m o = by_parity (λ r. m * (1 + r) * 2 ^ 52 ≡ m * 2 ^ (52 + r)) (omega arith) (omega arith) o

pub twice : (m o : ℕ) → m < 2 ^ 53 → m * (1 + o % 2) < 2 ^ 54
twice m o h = by_parity (λ r. m * (1 + r) < 2 ^ 54) (omega arith) (omega arith) o

-- the root has 53 digits
pub root_digits : (m o : ℕ) → 2 ^ 52 ≤ m → m < 2 ^ 53 → (2 ^ 52 ≤ nearest_root (m * 2 ^ (52 + o % 2))) × (nearest_root (m * 2 ^ (52 + o % 2)) < 2 ^ 53)
root_digits m o a b =
    let v = m * 2 ^ (52 + o % 2) in
    let r = scaled_range m o a b in
    let n = nearest_root_nearest v (omega arith) (omega arith) in
    (nearest_low v (nearest_root v) r.0 n, nearest_high v (nearest_root v) r.1 n)

-- a pattern of two fields, the digit before the point counted as one more of the exponent's
pub normal_pattern : (k q : ℕ) → k < 2046 → 2 ^ 52 ≤ q → q < 2 ^ 53 → of_bits binary64 (k * 2 ^ 52 + q) ≡ odd 53 false q k 1074
unfolding of_bits of_fields
normal_pattern k q h a b =
    let n = k * 2 ^ 52 + q in
    let plus : leb (2 ^ 63) n ≡ false = lt-leb (2 ^ 63) n (omega arith) in
    let field : n % 2 ^ 63 / 2 ^ 52 ≡ suc k = omega arith in
    let digits : n % 2 ^ 52 ≡ q - 2 ^ 52 = omega arith in
    let whole : 2 ^ 52 + (q - 2 ^ 52) ≡ q = omega arith in
    ap (λ s. of_fields binary64 s (n % 2 ^ 63 / 2 ^ 52) (n % 2 ^ 52)) plus
    ∙ ap (λ f. of_fields binary64 false f (n % 2 ^ 52)) field
    ∙ ap (λ t. of_fields binary64 false (suc k) t) digits
    ∙ rw (ne_eqb (suc k) 2047 (omega arith)) (ap (λ d. odd 53 false d k 1074) whole)

-- ---- a subnormal value's digits, moved up by the zeros before them less 11
pub record Moved (b i : ℕ) : Type 0 where
  pub enough : 11 ≤ count_leading_zeros 64 b
  pub few : i ≤ 52
  pub low : 2 ^ 52 ≤ b * 2 ^ i
  pub high : b * 2 ^ i < 2 ^ 53

pub moved : (b : ℕ) → 0 < b → b < 2 ^ 52 → Moved b (count_leading_zeros 64 b - 11)
moved b b>0 h =
    let t = leading_top 64 b b>0 (omega arith) in
    let j = t.0 in
    let counted = t.1 in
    let j<52 = pow_cancel j 52 (lt_of_le_of_lt t.2 h) in
    let e : count_leading_zeros 64 b - 11 ≡ 52 - j = omega arith in
    let u = moved_up b j t.2 t.3 (omega arith) in
    record {
      enough = omega arith;
      few = omega arith;
      low = subst (λ (i : ℕ). 2 ^ 52 ≤ b * 2 ^ i) (sym e) u.0;
      high = subst (λ (i : ℕ). b * 2 ^ i < 2 ^ 53) (sym e) u.1;
    }

pub moved_value : (b i : ℕ) → b < 2 ^ 52 → Moved b i → magnitude b * 2 ^ 1074 ≡ (2 ^ 52 + b * 2 ^ i % 2 ^ 64 % 2 ^ 52) * 2 ^ (1074 - i)
moved_value b i h m =
    let few = m.few in
    let low = m.low in
    let high = m.high in
    let e : 1074 ≡ i + (1074 - i) = omega arith in
    let d : b * 2 ^ i ≡ 2 ^ 52 + b * 2 ^ i % 2 ^ 64 % 2 ^ 52 = omega arith in
    ap (λ (n : ℕ). n * 2 ^ 1074) (magnitude_subnormal b h)
    ∙ ap (λ (n : ℕ). b * 2 ^ n) e
    ∙ ap (λ (n : ℕ). b * n) (pow-add 2 i (1074 - i))
    ∙ sym (mul_assoc b (2 ^ i) (2 ^ (1074 - i)))
    ∙ ap (λ (n : ℕ). n * 2 ^ (1074 - i)) d

-- ---- a positive value by its bits
module _ (x : Float) (h : T (fits binary64 x)) (above : lt zero64 x ≡ true) where
  pub number : T (not (is_nan x))
  number = lt_number_right zero64 x (subst T (sym above) tt)

  bits_are : (to_bits binary64 x < 2 ^ 63) × (rest x ≡ to_bits binary64 x)
  bits_are =
      let l = leb-false (2 ^ 63) (to_bits binary64 x) (sym (sign_bit_lem x h number) ∙ positive_sign x above) in
      (l, mod-eq_of_lt l)

  root_is : to_bits binary64 x < 2047 * 2 ^ 52 → root x ≡ root_of (magnitude (to_bits binary64 x))
  root_is l =
      let f = finite_pattern x h number (subst (λ b. b < 2047 * 2 ^ 52) (sym bits_are.1) l) in
      root_positive x above f ∙ ap root_of (quanta_pattern x h f) ∙ ap (λ b. root_of (magnitude b)) bits_are.1

  pub root_infinite : 2047 * 2 ^ 52 ≤ to_bits binary64 x → x ≡ root x
  root_infinite l =
      let e : x ≡ inf false = infinite_pattern x h number (subst (λ b. 2047 * 2 ^ 52 ≤ b) (sym bits_are.1) l) ∙ ap inf (positive_sign x above) in
      subst (λ y. y ≡ root y) (sym e) (unfold root in refl)

  pub root_scaled : (d g : ℕ) → to_bits binary64 x < 2047 * 2 ^ 52 → 52 ≤ g → magnitude (to_bits binary64 x) * 2 ^ 1074 ≡ (2 ^ 52 + d % 2 ^ 52) * 2 ^ g
      → odd 53 false (nearest_root ((2 ^ 52 + d % 2 ^ 52) * 2 ^ (52 + g % 2))) ((g - 52) / 2) 1074 ≡ root x
  root_scaled d g l k e = sym (root_is l ∙ root_of_is (magnitude (to_bits binary64 x)) (2 ^ 52 + d % 2 ^ 52) g (omega arith) (omega arith) k e)

  -- zero's pattern is not a positive value's
  pub bits_positive : 0 < to_bits binary64 x
  bits_positive = go (eq-zero-or-pos (to_bits binary64 x))
    where
      go : (to_bits binary64 x ≡ 0) ⊎ (0 < to_bits binary64 x) → 0 < to_bits binary64 x
      go (inl e) =
          let z : x ≡ zero64 = sym (of_bits-to_bits binary64 x h) ∙ ap (of_bits binary64) e ∙ (unfold of_bits in refl) in
          absurd (true≢false (sym above ∙ ap (lt zero64) z ∙ (unfold lt in refl)))
      go (inr l) = l
