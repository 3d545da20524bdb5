-- A float that is no NaN as a sign and a magnitude, counted in 2^-1074, and the comparisons and the place by these two.
-- An infinity has the magnitude 2^2098, which is above every finite one, so that one argument covers finite values and infinities.
use Rattle.std.specs.Prelude.{◌≡◌, refl, ℕ, ◌*◌, ◌/◌, ◌^◌, ◌≤◌, ◌<◌, Bool, true, false, not, ◌&&◌, ℤ, T, ltb, eqb, Float}
use Rattle.std.proofs.Common.{sym, ap, ap₂, ◌∙◌, le_of_eq, le_of_lt, mul-div_cancel, pow_pos}
use Rattle.std.specs.Float.{nan, inf, fin}
use Rattle.std.specs.Float.Ieee.{up, down, below, lt, eq}
use Rattle.std.specs.Float.Ieee.Exact.{HasValue}
use Rattle.std.specs.Float.Ieee.Fits.{and_i, down_pos}
use Rattle.float.specs.Rules.{zero64}
use Rattle.float.specs.TotalOrder.{negative, place}
use Rattle.float.specs.Quanta.{quanta}
use Rattle.float.specs.laws.OrderTheorems.Signed.{below_fractions, below_far_far, below_far_near, below_near_far, moved, below_moved, by_order, level_below, meet}

-- x has the magnitude n
abbrev pub Size : Float → ℕ → Type 0
Size nan n = ⊥
Size (inf s) n = n ≡ 2 ^ 2098
Size (fin s m e) n = (m * up e * 2 ^ 1074 ≡ n * down e) × (n < 2 ^ 2098)

-- x has the sign s and the magnitude n
pub record Is (x : Float) (s : Bool) (n : ℕ) : Type 0 where
  pub sign : negative x ≡ s
  pub size : Size x n

pub of_finite : (x : Float) (s : Bool) (n : ℕ) → HasValue x s n (2 ^ 1074) → n < 2 ^ 2098 → Is x s n
of_finite nan s n h l = absurd h
of_finite (inf t) s n h l = absurd h
of_finite (fin t m e) s n h l = record { sign = unfold negative in h.0; size = (h.1, l) }

pub of_infinity : (s : Bool) (n : ℕ) → n ≡ 2 ^ 2098 → Is (inf s) s n
of_infinity s n e = record { sign = unfold negative in refl; size = e }

pub size_le : (x : Float) (n : ℕ) → Size x n → n ≤ 2 ^ 2098
size_le nan n h = absurd h
size_le (inf s) n h = le_of_eq h
size_le (fin s m e) n h = le_of_lt h.1

-- the division in `quanta` is exact
pub quanta_size : (s : Bool) (m : ℕ) (e : ℤ) (n : ℕ) → Size (fin s m e) n → quanta (fin s m e) ≡ n
unfolding quanta
quanta_size s m e n h = ap (λ (a : ℕ). a / down e) h.0 ∙ mul-div_cancel n (down_pos e)

pub place_size : (x : Float) (n : ℕ) → Size x n → place x ≡ moved (2 ^ 2098) (negative x) n
unfolding place negative
place_size nan n h = absurd h
place_size (inf true) n h = rw h
place_size (inf false) n h = rw h
place_size (fin s m e) n h = ap (moved (2 ^ 2098) s) (quanta_size s m e n h)

pub lt_size : (x y : Float) (p q : ℕ) → Size x p → Size y q → lt x y ≡ below (negative x) p (negative y) q
unfolding lt negative
lt_size nan y p q h k = absurd h
lt_size (inf s) nan p q h k = absurd k
lt_size (inf s) (inf t) p q h k = rw (h, k) (below_far_far (2 ^ 2098) (pow_pos 2098) s t)
lt_size (inf s) (fin t n d) p q h k = rw h (below_far_near (2 ^ 2098) q k.1 s t)
lt_size (fin s m e) nan p q h k = absurd k
lt_size (fin s m e) (inf t) p q h k = rw k (below_near_far (2 ^ 2098) p h.1 s t)
lt_size (fin s m e) (fin t n d) p q h k = below_fractions (2 ^ 1074) (down e) (down d) (pow_pos 1074) (down_pos e) (down_pos d) s (m * up e) p t (n * up d) q h.0 k.0

pub lt_places : (x y : Float) (p q : ℕ) → Size x p → Size y q → lt x y ≡ ltb (place x) (place y)
lt_places x y p q h k =
    lt_size x y p q h k
    ∙ below_moved (2 ^ 2098) (negative x) p (negative y) q (size_le x p h) (size_le y q k)
    ∙ sym (ap₂ ltb (place_size x p h) (place_size y q k))

eq_lt : (x y : Float) (p q : ℕ) → Size x p → Size y q → eq x y ≡ (not (lt x y) && not (lt y x))
unfolding eq lt
eq_lt nan y p q h k = absurd h
eq_lt (inf s) nan p q h k = absurd k
eq_lt (inf true) (inf true) p q h k = refl
eq_lt (inf true) (inf false) p q h k = refl
eq_lt (inf false) (inf true) p q h k = refl
eq_lt (inf false) (inf false) p q h k = refl
eq_lt (inf true) (fin t n d) p q h k = refl
eq_lt (inf false) (fin t n d) p q h k = refl
eq_lt (fin s m e) nan p q h k = absurd k
eq_lt (fin s m e) (inf true) p q h k = refl
eq_lt (fin s m e) (inf false) p q h k = refl
eq_lt (fin s m e) (fin t n d) p q h k = level_below s (m * up e * down d) t (n * up d * down e)

pub eq_places : (x y : Float) (p q : ℕ) → Size x p → Size y q → eq x y ≡ eqb (place x) (place y)
eq_places x y p q h k =
    eq_lt x y p q h k
    ∙ rw (lt_places x y p q h k, lt_places y x q p k h) (by_order (λ l m e _ _. (not l && not m) ≡ e) refl refl refl (place x) (place y))

zero_place : (x : Float) (p : ℕ) → Size x p → place x ≡ 2 ^ 2098 → T (eq x zero64)
zero_place x p h e = rw (eq_places x zero64 p 0 h (refl, pow_pos 2098), e) (unfold place in tt)

-- a value with the sign plus and one with the sign minus have one place only where both are zero
pub zeros_meet : (x y : Float) (p q : ℕ) → Size x p → Size y q → T (not (negative x)) → T (negative y) → place x ≡ place y → T (eq x zero64 && eq y zero64)
zeros_meet x y p q h k s t e =
    let m = meet (2 ^ 2098) (negative x) p (negative y) q (size_le y q k) s t (sym (place_size x p h) ∙ e ∙ place_size y q k) in
    and_i (eq x zero64) (eq y zero64) (zero_place x p h (place_size x p h ∙ m.0)) (zero_place y q k (place_size y q k ∙ m.1))
