-- The cases of `root`: which values are positive, zero or neither, by the comparisons with zero that a program makes.
use Rattle.std.specs.Prelude.{◌≡◌, refl, Bool, true, false, ◌&&◌, ℕ, zero, suc, ◌*◌, ◌<◌, T, ltb, eqb, ℤ, Float}
use Rattle.std.proofs.Common.{sym, ◌∙◌, subst, true≢false, mul-pos, zero-lt-suc, zero-mul, arith, lt→ltb, ltb→lt, eqb→eq}
use Rattle.std.specs.Float.{nan, inf, fin}
use Rattle.std.specs.Float.Ieee.{up, down, lt, eq}
use Rattle.std.specs.Float.Ieee.Bits.{is_true}
use Rattle.std.specs.Float.Ieee.Fits.{up_pos, and_l}
use Rattle.std.specs.Float.Ieee.Scale.{finite}
use Rattle.float.specs.Rules.{zero64}
use Rattle.float.specs.Quanta.{quanta}
use Rattle.float.specs.TotalOrder.{negative}
use Rattle.sqrt.specs.Root.{root, root_of}

-- 0 < m * 2^e for an m above 0, as `lt` computes it
abbrev above : ℕ → ℤ → Bool
above m e = ltb (0 * 1 * down e) (suc m * up e * 1)

above_is : (m : ℕ) (e : ℤ) → above m e ≡ true
above_is m e = is_true (above m e) (lt→ltb (0 * 1 * down e) (suc m * up e * 1) (pos_left (down e) (suc m * up e) (mul-pos (zero-lt-suc m) (up_pos e))))
  where
    pos_left : (d n : ℕ) → 0 < n → 0 * 1 * d < n * 1
    pos_left d n h = omega arith

nothing_below : (e : ℤ) → ltb (0 * 1 * down e) (0 * up e * 1) ≡ true → ⊥
nothing_below e h = none (down e) (up e) (ltb→lt (0 * 1 * down e) (0 * up e * 1) (subst T (sym h) tt))
  where
    none : (d u : ℕ) → 0 * 1 * d < 0 * u * 1 → ⊥
    none d u l = omega arith

-- a finite value above zero
pub root_positive : (x : Float) → lt zero64 x ≡ true → T (finite x) → root x ≡ root_of (quanta x)
unfolding lt root
root_positive nan h f = absurd f
root_positive (inf s) h f = absurd f
root_positive (fin true m e) h f = absurd (true≢false (sym h))
root_positive (fin false zero e) h f = absurd (nothing_below e h)
root_positive (fin false (suc m) e) h f = refl

pub positive_sign : (x : Float) → lt zero64 x ≡ true → negative x ≡ false
unfolding lt negative
positive_sign nan h = refl
positive_sign (inf true) h = sym h
positive_sign (inf false) h = refl
positive_sign (fin true m e) h = sym h
positive_sign (fin false m e) h = refl

-- a zero
not_zero : (m : ℕ) (e : ℤ) (b : Bool) → (eqb (suc m * up e * 1) (0 * 1 * down e) && b) ≡ true → ⊥
not_zero m e b h =
    none (suc m * up e) (down e) (mul-pos (zero-lt-suc m) (up_pos e)) (eqb→eq (suc m * up e * 1) (0 * 1 * down e) (and_l (eqb (suc m * up e * 1) (0 * 1 * down e)) b (subst T (sym h) tt)))
  where
    none : (n d : ℕ) → 0 < n → n * 1 ≡ 0 * 1 * d → ⊥
    none n d h e = omega arith

pub root_at_zero : (x : Float) → eq x zero64 ≡ true → root x ≡ x
unfolding eq root
root_at_zero nan h = absurd (true≢false (sym h))
root_at_zero (inf s) h = absurd (true≢false (sym h))
root_at_zero (fin s zero e) h = refl
root_at_zero (fin s (suc m) e) h = absurd (not_zero m e _ h)

-- neither
zero_is : (s : Bool) (e : ℤ) → eq (fin s 0 e) zero64 ≡ true
unfolding eq
zero_is true e = rw (zero-mul (up e), zero-mul (down e))
zero_is false e = rw (zero-mul (up e), zero-mul (down e))

pub root_none : (x : Float) → lt zero64 x ≡ false → eq x zero64 ≡ false → root x ≡ nan
unfolding lt root
root_none nan h k = refl
root_none (inf true) h k = refl
root_none (inf false) h k = absurd (true≢false h)
root_none (fin s zero e) h k = absurd (true≢false (sym (zero_is s e) ∙ k))
root_none (fin true (suc m) e) h k = refl
root_none (fin false (suc m) e) h k = absurd (true≢false (sym (above_is m e) ∙ h))
