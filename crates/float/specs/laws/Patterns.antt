-- What the tests of a program say of a float and of its bit pattern: it is no NaN.
use Rattle.std.specs.Prelude.{◌≡◌, Bool, true, false, not, ℕ, ◌%◌, ◌^◌, ◌≤◌, T, Float}
use Rattle.std.proofs.Common.{refl, sym, ◌∙◌, subst, true≢false, le_trans}
use Rattle.std.proofs.Math.Nat.{mod-le}
use Rattle.std.proofs.Math.Arith.{le→nltb}
use Rattle.std.specs.Float.{nan, inf, fin, binary64}
use Rattle.std.specs.Float.Ieee.{nan_bits, is_nan, ne}
use Rattle.std.specs.Float.Ieee.Bits.{nan_bits_above}
use Rattle.std.specs.Float.Ieee.Compare.{differs_from_itself, nan_differs}

T_not : (b : Bool) → T (not b) → b ≡ false
T_not true h = absurd h
T_not false h = refl

-- the pattern of +∞ and every one below it is no NaN's
pub number_pattern : (n : ℕ) → n ≤ 0x7FF0_0000_0000_0000 → T (not (nan_bits binary64 n))
number_pattern n h = subst (λ (b : Bool). T (not b)) (sym (nan_bits_above binary64 n)) (le→nltb 0x7FF0_0000_0000_0000 (n % 2 ^ 63) (le_trans (mod-le n (2 ^ 63)) h))

-- `x != x` is true of a NaN and of nothing else
pub is_nan_lem : (x : Float) → ne x x ≡ true → x ≡ nan
is_nan_lem x e = differs_from_itself x (subst T (sym e) tt)

pub no_nan : (x : Float) → ne x x ≡ false → T (not (is_nan x))
unfolding is_nan
no_nan nan e = absurd (true≢false (sym nan_differs ∙ e))
no_nan (inf s) e = tt
no_nan (fin s m d) e = tt

is_test : (x : Float) (b : Bool) → ne x x ≡ b → b ≡ is_nan x
unfolding is_nan
is_test x true e = rw (is_nan_lem x e)
is_test x false e = sym (T_not (is_nan x) (no_nan x e))

-- `x != x` and `x.is_nan()` are one test
pub ne_self : (x : Float) → ne x x ≡ is_nan x
ne_self x = is_test x (ne x x) refl

-- `x.is_nan()` is true of a NaN and of nothing else
pub nan_only : (x : Float) → is_nan x ≡ true → x ≡ nan
nan_only x e = is_nan_lem x (ne_self x ∙ e)
