-- Theorems on the order of binary64 values that are no NaN: the comparisons are the order of the values as numbers, and the key sorts by IEEE 754's totalOrder.
mod Signed
pub mod Value
pub mod Pattern
mod Key
use Rattle.std.specs.Prelude.{◌≡◌, ℕ, ◌*◌, ◌%◌, ◌^◌, ◌≤◌, ◌<◌, Bool, true, false, not, ◌&&◌, ◌||◌, ℤ, pos, leb, ltb, eqb, Float}
use Rattle.std.proofs.Math.Path.{refl, sym, ap}
use Rattle.std.proofs.Common.{◌∙◌, lt_trans, arith, lit<}
use Rattle.std.proofs.Math.Dec.{T, T_not}
use Rattle.std.specs.Float.{nan, inf, fin}
use Rattle.std.specs.Float.Ieee.{binary64, up, down, lt, le, eq, fits, is_nan, to_bits, of_bits}
use Rattle.std.specs.Float.Ieee.Bits.{to_bits-lt, of_bits-to_bits}
use Rattle.float.specs.Rules.{zero64}
use Rattle.float.specs.TotalOrder.{negative, total_order, key_of, order_key, place}
use Rattle.float.specs.Quanta.{quanta}
use Signed.{by_order, total_key, total_le}
use Value.{quanta_size, lt_places, eq_places, zeros_meet}
use Pattern.{sign_bit, rest, of_pattern, lt_pattern}
use Key.{key_of_signed, key_of_injective, key_of_lt}
use Key

-- The division in `quanta` is exact for a value of the format.
pub quanta_val : (s : Bool) (m : ℕ) (e : ℤ) → T (fits binary64 (fin s m e)) → quanta (fin s m e) * down e ≡ m * up e * 2 ^ 1074
quanta_val s m e h =
    let size = (of_pattern (fin s m e) h (unfold is_nan in tt)).size in
    ap (λ n. n * down e) (quanta_size s m e _ size) ∙ sym size.0

-- The sign is the highest bit of the pattern.
pub sign_bit_lem : (x : Float) → T (fits binary64 x) → T (not (is_nan x)) → negative x ≡ leb (2 ^ 63) (to_bits binary64 x)
sign_bit_lem x h n = (of_pattern x h n).sign

-- Without the sign no pattern of a number is above that of +∞.
pub pattern_le : (x : Float) → T (fits binary64 x) → T (not (is_nan x)) → to_bits binary64 x % 2 ^ 63 ≤ 2047 * 2 ^ 52
pattern_le x h n = Key.pattern_le x h n

-- The key of a number is that of its bit pattern.
pub key_pattern : (x : Float) → T (not (is_nan x)) → order_key x ≡ key_of (to_bits binary64 x)
unfolding is_nan order_key
key_pattern nan n = absurd n
key_pattern (inf s) n = refl
key_pattern (fin s m e) n = refl

module _ (x y : Float) (fx : T (fits binary64 x)) (fy : T (fits binary64 y)) (nx : T (not (is_nan x))) (ny : T (not (is_nan y))) where
  -- `<` is the order of the places.
  pub lt_place : lt x y ≡ ltb (place x) (place y)
  lt_place = lt_places x y _ _ (of_pattern x fx nx).size (of_pattern y fy ny).size

  -- `==` is the equality of the places.
  pub eq_place : eq x y ≡ eqb (place x) (place y)
  eq_place = eq_places x y _ _ (of_pattern x fx nx).size (of_pattern y fy ny).size

  -- `<=` is the order of the places.
  pub le_place : le x y ≡ leb (place x) (place y)
  unfolding le
  le_place = rw (lt_place, eq_place) (by_order (λ l _ e le _. (l || e) ≡ le) refl refl refl (place x) (place y))

  -- The key orders as IEEE 754's totalOrder.
  pub key_order : leb (order_key x) (order_key y) ≡ total_order x y
  unfolding total_order
  key_order =
      let b = to_bits binary64 x in
      let c = to_bits binary64 y in
      rw (key_pattern x nx, key_pattern y ny, key_of_signed b (to_bits-lt binary64 x fx), key_of_signed c (to_bits-lt binary64 y fy))
      (rw (lt_pattern x y fx fy nx ny, lt_pattern y x fy fx ny nx, sign_bit_lem x fx nx, sign_bit_lem y fy ny)
      (total_key (2 ^ 63) (sign_bit x) (rest x) (sign_bit y) (rest y) (omega arith) (omega arith)))

  -- No two values have one key.
  pub key_injective : order_key x ≡ order_key y → x ≡ y
  key_injective e =
      let k : key_of (to_bits binary64 x) ≡ key_of (to_bits binary64 y) = sym (key_pattern x nx) ∙ e ∙ key_pattern y ny in
      let d = key_of_injective (to_bits binary64 x) (to_bits binary64 y) (to_bits-lt binary64 x fx) (to_bits-lt binary64 y fy) k in
      sym (of_bits-to_bits binary64 x fx) ∙ ap (of_bits binary64) d ∙ of_bits-to_bits binary64 y fy

  -- Unless both are zero, the key orders as `<=`.
  pub key_number : T (not (eq x zero64 && eq y zero64)) → leb (order_key x) (order_key y) ≡ le x y
  unfolding total_order
  key_number h =
      let i = (of_pattern x fx nx).size in
      let j = (of_pattern y fy ny).size in
      let apart : T (not (negative x)) → T (negative y) → place x ≡ place y → ⊥ = λ s t e. T_not (eq x zero64 && eq y zero64) h (zeros_meet x y _ _ i j s t e) in
      key_order ∙ rw (lt_place, lt_places y x _ _ j i) (total_le (negative x) (negative y) (place x) (place y) apart) ∙ sym le_place

-- Of the zeros, which are equal, the one with the sign minus has the lower key.
pub key_zeros : order_key (fin true 0 (pos 0)) < order_key (fin false 0 (pos 0))
unfolding order_key to_bits
key_zeros = lit< tt

pub eq_zeros : eq (fin true 0 (pos 0)) (fin false 0 (pos 0)) ≡ true
unfolding eq
eq_zeros = refl

-- The key of a NaN is above every other.
pub key_nan : (x : Float) → T (fits binary64 x) → T (not (is_nan x)) → order_key x < order_key nan
unfolding order_key
key_nan x h n = rw (key_pattern x n) (key_of_lt (to_bits binary64 x) (to_bits-lt binary64 x h) (pattern_le x h n))

-- A key is a u64.
pub key_below : (x : Float) → T (fits binary64 x) → order_key x < 2 ^ 64
unfolding order_key
key_below nan h = lit< tt
key_below (inf s) h = lt_trans (key_nan (inf s) h (unfold is_nan in tt)) (lit< tt)
key_below (fin s m e) h = lt_trans (key_nan (fin s m e) h (unfold is_nan in tt)) (lit< tt)
