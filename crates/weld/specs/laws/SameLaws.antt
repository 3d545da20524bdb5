-- 'Equal as numbers' (`Welding.same`) is csx's test of finite coordinates: `from_triangles` compares their bits after adding 0.0 to each.
-- Adding 0.0 leaves a finite value of the format as it is, but for a zero, which it gives the sign plus: the sum is rounded from exactly that value. So no sum is a NaN, whose bits are not decided.
use Prim.Native.Nat.{ℕ, zero, suc, ◌+◌, ◌-◌, ◌*◌, ◌%◌, ◌^◌, ◌<◌, ◌≤◌}
use Rattle.std.specs.Prelude.{◌≡◌, refl, Bool, true, false, ◌&&◌, T, ℤ, pos, negsuc, eqb, ltb, leb, Float}
use Rattle.std.proofs.Common.{arith, sym, ap, ◌∙◌, inl, inr, mul_assoc, mul-one, mul-pos, zero-mul, add-zero, lt_of_lt_of_le, not-le_of_lt, pow_pos, pow-add, eqb→eq, ltb→lt, leb→le}
use Rattle.std.proofs.lemmas.Bool.{cases_lt}
use Rattle.std.proofs.Math.Pow.{pow_mono, pow-lt, shl_lt}
use Rattle.std.proofs.Math.Nat.{mul-lt-mul_of_pos_right, sub-zero}
use borrow.Author.Tests.{le-ltb, lt-ltb, eq-eqb}
use Rattle.std.specs.Float.{nan, inf, fin, binary64}
use Rattle.std.specs.Float.Ieee.{of_bits, to_bits, up, down, round, sum, add, eq, fits}
use Rattle.std.specs.Float.Ieee.Bits.{is_true, of_bits-to_bits}
use Rattle.std.specs.Float.Ieee.Exact.{HasValue, round_exact}
use Rattle.std.specs.Float.Ieee.Fits.{down_pos, up_pos, and_l, and_r, add-fits}
use Rattle.std.specs.Float.Ieee.Scale.{round_same}
use Rattle.float.specs.Arithmetic as Arithmetic
use Rattle.float.specs.Arithmetic.{◌⊕◌}
use Rattle.float.specs.laws.Order.{Finite, Alike, is_zero, finite_number, eq_alike, alike_eq, alike_sym, alike_trans}
use Rattle.refusal.specs.laws.VerdictLaws.{both}
use Rattle.math.specs.declared.Vec3.{Vec3}
use Rattle.math.specs.Vectors.{is_finite}
use Rattle.math.specs.laws.Enclosing.{finite_vec}
use Rattle.mesh.specs.laws.PermutedBoxes.{F64Vec}
use Rattle.weld.specs.Welding.{same}

-- ---- a value of the format, rounded, is that value

-- of powers of 2 the smaller has the smaller exponent
exponent_le : (a b : ℕ) → 2 ^ a ≤ 2 ^ b → a ≤ b
exponent_le a b h = elim (cases_lt b a) [
  | inl below ↦ absurd (not-le_of_lt (pow-lt below) h)
  | inr above ↦ above
]

-- what it says of m * 2^e that the format has it
fits_parts : (s : Bool) (m : ℕ) (e : ℤ) → T (fits binary64 (fin s (suc m) e)) → (suc m < 2 ^ 53) × (down e ≤ 2 ^ 1074) × (suc m * up e < 2 ^ 1024 * down e)
unfolding fits
fits_parts s m e h =
    let odd = eqb (suc m % 2) 1 in
    let few = ltb (suc m) (2 ^ 53) in
    let deep = leb (down e) (2 ^ 1074) in
    let small = ltb (suc m * up e) (2 ^ 1024 * down e) in
    let rest = and_l (odd && few && deep) small h in
    (ltb→lt _ _ (and_r odd few (and_l (odd && few) deep rest)), leb→le _ _ (and_r (odd && few) deep rest), ltb→lt _ _ (and_r (odd && few && deep) small h))

-- m * 2^e with the sign s rounds to a float of exactly that value
exact : (s : Bool) (m : ℕ) (e : ℤ) → m < 2 ^ 53 → down e ≤ 2 ^ 1074 → m * up e < 2 ^ 1024 * down e → HasValue (round binary64 s (m * up e) (down e)) s (m * up e) (down e)
exact s m (pos k) few deep small =
    let above : m * 2 ^ k < 2 ^ 1024 = omega (arith, small) in
    round_exact binary64 s (m * 2 ^ k) 1 m (k + 1074) (omega arith) few
    (rw (pow-add 2 k 1074, ← mul_assoc) (mul-lt-mul_of_pos_right above (pow_pos 1074)))
    (rw (pow-add 2 k 1074, mul-one) (mul_assoc m (2 ^ k) (2 ^ 1074)))
exact s m (negsuc k) few deep small =
    let j = 1074 - suc k in
    let places : j + suc k ≡ 1074 = omega (arith, exponent_le (suc k) 1074 deep) in
    round_exact binary64 s (m * 1) (2 ^ suc k) m j (pow_pos (suc k)) few
    (lt_of_lt_of_le (shl_lt 53 j few) (pow_mono {i = 53 + j} {j = 2098} (omega arith)))
    (rw (mul-one m, mul_assoc m (2 ^ j) (2 ^ suc k), ← pow-add 2 j (suc k), places))

-- what has the value of m * 2^e and its sign is equal to it
equal_value : (z : Float) (s : Bool) (m : ℕ) (e : ℤ) → HasValue z s (m * up e) (down e) → T (eq z (fin s m e))
unfolding eq
equal_value nan s m e h = absurd h
equal_value (inf t) s m e h = absurd h
equal_value (fin t n d) false m e h = rw (h.0, eq-eqb _ _ h.1) tt
equal_value (fin t n d) true m e h = rw (h.0, eq-eqb _ _ h.1) tt

-- ---- adding 0.0

-- 0 added to a size above 0, with its sign
sum_some : (s : Bool) (a c : ℕ) → 0 < a → sum binary64 s a false 0 c ≡ round binary64 s a c
unfolding sum
sum_some false a c h = rw (add-zero a)
sum_some true a c h = rw (le-ltb a 0 (omega arith), lt-ltb 0 a h, sub-zero a)

-- added to 0 with either sign it gives 0 with the sign plus
sum_none : (s : Bool) (c : ℕ) → 0 < c → sum binary64 s 0 false 0 c ≡ Arithmetic.zero
unfolding sum round of_bits
sum_none false c h = round_same binary64 false 0 c 0 1 h (omega arith) (omega arith) ∙ refl
sum_none true c h = round_same binary64 false 0 c 0 1 h (omega arith) (omega arith) ∙ refl

-- the sizes as `add` puts them over one denominator
plus_zero_is : (s : Bool) (m : ℕ) (e : ℤ) → fin s m e ⊕ Arithmetic.zero ≡ sum binary64 s (m * up e) false 0 (down e)
unfolding add of_bits
plus_zero_is s m e =
    let a : m * up e * 1 ≡ m * up e = omega arith in
    let b : 0 * 1 * down e ≡ 0 = omega arith in
    let c : down e * 1 ≡ down e = omega arith in
    rw (a, b, c)

-- a zero becomes the zero with the sign plus
zero_plus_zero : (x : Float) → T (is_zero x) → x ⊕ Arithmetic.zero ≡ Arithmetic.zero
zero_plus_zero nan z = absurd z
zero_plus_zero (inf s) z = absurd z
zero_plus_zero (fin s zero e) z = plus_zero_is s 0 e ∙ rw (zero-mul (up e)) (sum_none s (down e) (down_pos e))
zero_plus_zero (fin s (suc m) e) z = absurd (omega (arith, eqb→eq (suc m) 0 z))

-- a finite value of the format stays as it is, but perhaps for the sign of a zero
plus_zero : (x : Float) → T (fits binary64 x) → Finite x → Alike (x ⊕ Arithmetic.zero) x
plus_zero nan h f = absurd f
plus_zero (inf s) h f = absurd f
plus_zero (fin s zero e) h f = inr (rw (zero_plus_zero (fin s 0 e) tt) (unfold of_bits in tt), tt)
plus_zero (fin s (suc m) e) h f =
    let in_format = fits_parts s m e h in
    let value = exact s (suc m) e in_format.0 in_format.1 in_format.2 in
    let sum_is = plus_zero_is s (suc m) e ∙ sum_some s (suc m * up e) (down e) (mul-pos (omega arith) (up_pos e)) in
    eq_alike binary64 (fin s (suc m) e ⊕ Arithmetic.zero) (fin s (suc m) e) (add-fits binary64 (fin s (suc m) e) Arithmetic.zero) h (rw sum_is (equal_value _ s (suc m) e value))

-- ---- the bits that csx compares

-- a coordinate's bits after adding 0.0, as `from_triangles` of csx looks them up
abbrev pub key : Float → ℕ
key x = to_bits binary64 (x ⊕ Arithmetic.zero)

-- Two finite values of the format are equal as numbers exactly if these bits are the same.
pub eq_is_key : (x y : Float) → T (fits binary64 x) → T (fits binary64 y) → Finite x → Finite y → (eq x y ≡ true → key x ≡ key y) × (key x ≡ key y → eq x y ≡ true)
eq_is_key x y p q f g = (λ e. bits (eq_alike binary64 x y p q (rw e tt)), λ e. is_true (eq x y) (alike_eq (finite_number x f) (alike (back e))))
  where
    bits : Alike x y → key x ≡ key y
    bits (inl e) = ap key e
    bits (inr z) = rw (zero_plus_zero x z.0, zero_plus_zero y z.1)

    back : key x ≡ key y → x ⊕ Arithmetic.zero ≡ y ⊕ Arithmetic.zero
    back e = sym (of_bits-to_bits binary64 (x ⊕ Arithmetic.zero) (add-fits binary64 x Arithmetic.zero)) ∙ ap (of_bits binary64) e ∙ of_bits-to_bits binary64 (y ⊕ Arithmetic.zero) (add-fits binary64 y Arithmetic.zero)

    alike : x ⊕ Arithmetic.zero ≡ y ⊕ Arithmetic.zero → Alike x y
    alike e = alike_trans (alike_sym (plus_zero x p f)) (rw e (plus_zero y q g))

-- Two finite points are one vertex exactly if csx finds the same bits at all three coordinates.
pub same_is_key : (a b : Vec3) → F64Vec a → F64Vec b → is_finite a ≡ true → is_finite b ≡ true
    → (same a b ≡ true → (key a.x ≡ key b.x) × (key a.y ≡ key b.y) × (key a.z ≡ key b.z)) × ((key a.x ≡ key b.x) × (key a.y ≡ key b.y) × (key a.z ≡ key b.z) → same a b ≡ true)
unfolding same
same_is_key a b p q f g =
    let finite_a = finite_vec a f in
    let finite_b = finite_vec b g in
    let x = eq_is_key a.x b.x p.x.fit q.x.fit finite_a.0 finite_b.0 in
    let y = eq_is_key a.y b.y p.y.fit q.y.fit finite_a.1 finite_b.1 in
    let z = eq_is_key a.z b.z p.z.fit q.z.fit finite_a.2 finite_b.2 in
    (λ e. split x.0 y.0 z.0 e, λ k. rw (x.1 k.0, y.1 k.1, z.1 k.2))
  where
    split : {A B C : Type 0} → (eq a.x b.x ≡ true → A) → (eq a.y b.y ≡ true → B) → (eq a.z b.z ≡ true → C) → (eq a.x b.x && eq a.y b.y && eq a.z b.z) ≡ true → A × B × C
    split u v w e =
        let two = both (eq a.x b.x && eq a.y b.y) (eq a.z b.z) e in
        let one = both (eq a.x b.x) (eq a.y b.y) two.0 in
        (u one.0, v one.1, w two.1)
