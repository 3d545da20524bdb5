-- The order of finite floats as an order of natural numbers, and the laws that follow, with the infinities and the NaN put in by cases.
-- A finite x is the signed fraction (P x - N x) / den x, where P x or N x is 0. So x ≤ y says that P x * den y + N y * den x ≤ P y * den x + N x * den y,
-- and the tests < and = are the same with < and ≡. Transitivity multiplies two such inequalities by a denominator each, adds them, and divides by the third.
use Rattle.std.specs.Prelude.{◌≡◌, Bool, true, false, not, ◌&&◌, ◌||◌, cond, ℕ, ◌+◌, ◌*◌, ◌≤◌, ◌<◌, T, leb, ltb, eqb, Float}
use Rattle.std.proofs.Math.Path.{refl}
use Rattle.std.proofs.Common.{sym, ap, ap₂, ◌∙◌, add_comm, zero-mul, mul-le-mul_right, le_of_mul-le-mul_right, arith, leb→le, le→leb, ltb→lt, nltb→le, eqb→eq}
use Rattle.std.proofs.Math.Bool.{and-true}
use Rattle.std.proofs.Math.Dec.{nleb→lt}
use Rattle.std.specs.Float.{nan, inf, fin}
use Rattle.std.specs.Float.Ieee.{up, down, below, level, lt, eq, le, neg, is_nan}
use Rattle.std.specs.Float.Ieee.Fits.{and_i, and_l, and_r}
use Rattle.std.specs.Float.Ieee.Bits.{is_true}
use Rattle.std.specs.Float.Ieee.Scale.{finite}
use Rattle.std.specs.Float.Ieee.Positive.{num, den, den_pos}
use Rattle.float.specs.laws.NumberTests.{same, tests}

-- ---- tests, and natural numbers

or_is : (a b : ℕ) → (ltb a b || eqb a b) ≡ leb a b
or_is a b = go (ltb a b) (ltb→lt a b) (nltb→le a b)
  where
    go : (c : Bool) → (T c → a < b) → (T (not c) → b ≤ a) → (c || eqb a b) ≡ leb a b
    go true f g = let l = f tt in same true (leb a b) (λ h. omega (arith, tests)) (λ h. tt)
    go false f g = let l = g tt in same (eqb a b) (leb a b) (omega (arith, tests)) (omega (arith, tests))

ltb_is : (a b : ℕ) → ltb a b ≡ not (leb b a)
ltb_is a b = go (leb b a) (leb→le b a) (nleb→lt b a)
  where
    go : (c : Bool) → (T c → b ≤ a) → (T (not c) → a < b) → ltb a b ≡ not c
    go true f g = let l = f tt in same (ltb a b) false (omega (arith, tests)) (λ h. absurd h)
    go false f g = let l = g tt in same (ltb a b) true (λ h. tt) (λ h. omega (arith, tests))

eqb_is : (a b : ℕ) → eqb a b ≡ (leb a b && leb b a)
eqb_is a b =
    same (eqb a b) (leb a b && leb b a)
    (λ h. and_i (leb a b) (leb b a) (omega (arith, tests)) (omega (arith, tests)))
    (λ h. let p = and_l (leb a b) (leb b a) h in let q = and_r (leb a b) (leb b a) h in omega (arith, tests))

-- a product is 0 only where its first factor is, if the second is not
pub none : (a c : ℕ) → 0 < c → a * c ≡ 0 → a ≡ 0
none a c C e = omega (arith, le_of_mul-le-mul_right {m = a} {n = 0} {k = c} (omega arith) C)

-- ---- ±a and ±b, the sign a Bool: a test of them is a test of two sums
abbrev left : Bool → ℕ → Bool → ℕ → ℕ
left s a t b = cond s 0 a + cond t b 0

below_is : (s : Bool) (a : ℕ) (t : Bool) (b : ℕ) → below s a t b ≡ ltb (left s a t b) (left t b s a)
below_is false a false b = same (ltb a b) (ltb (a + 0) (b + 0)) (omega (arith, tests)) (omega (arith, tests))
below_is false a true b = same false (ltb (a + b) 0) (λ h. absurd h) (omega (arith, tests))
below_is true a false b = same (ltb 0 (a + b)) (ltb 0 (b + a)) (omega (arith, tests)) (omega (arith, tests))
below_is true a true b = same (ltb b a) (ltb (0 + b) (0 + a)) (omega (arith, tests)) (omega (arith, tests))

both : (a b : ℕ) → (eqb a b && eqb a 0) ≡ eqb (a + b) 0
both a b =
    same (eqb a b && eqb a 0) (eqb (a + b) 0)
    (λ h. let p = and_l (eqb a b) (eqb a 0) h in let q = and_r (eqb a b) (eqb a 0) h in omega (arith, tests))
    (λ h. and_i (eqb a b) (eqb a 0) (omega (arith, tests)) (omega (arith, tests)))

level_is : (s : Bool) (a : ℕ) (t : Bool) (b : ℕ) → level s a t b ≡ eqb (left s a t b) (left t b s a)
level_is false a false b = and-true (eqb a b) ∙ same (eqb a b) (eqb (a + 0) (b + 0)) (omega (arith, tests)) (omega (arith, tests))
level_is false a true b = both a b
level_is true a false b = both a b ∙ same (eqb (a + b) 0) (eqb 0 (b + a)) (omega (arith, tests)) (omega (arith, tests))
level_is true a true b = and-true (eqb a b) ∙ same (eqb a b) (eqb (0 + b) (0 + a)) (omega (arith, tests)) (omega (arith, tests))

-- ---- the finite floats
abbrev sign : Float → Bool
sign nan = false
sign (inf s) = s
sign (fin s m e) = s

-- the size where x is positive, and the size where x is negative
abbrev pub P : Float → ℕ
P x = cond (sign x) 0 (num x)

abbrev pub N : Float → ℕ
N x = cond (sign x) (num x) 0

-- x ≤ y is cross x y ≤ cross y x
abbrev pub cross : Float → Float → ℕ
cross x y = P x * den y + N y * den x

pub scale : (s : Bool) (a b c : ℕ) → cond s a b * c ≡ cond s (a * c) (b * c)
scale false a b c = refl
scale true a b c = refl

left_is : (s : Bool) (a b : ℕ) (t : Bool) (c d : ℕ) → left s (a * d) t (c * b) ≡ cond s 0 a * d + cond t c 0 * b
left_is s a b t c d = simp (scale, zero-mul)

lt_is : (x y : Float) → T (finite x) → T (finite y) → lt x y ≡ ltb (cross x y) (cross y x)
unfolding lt
lt_is nan y p q = absurd p
lt_is (inf s) y p q = absurd p
lt_is (fin s m e) nan p q = absurd q
lt_is (fin s m e) (inf t) p q = absurd q
lt_is (fin s m e) (fin t n d) p q =
    below_is s (m * up e * down d) t (n * up d * down e)
    ∙ ap₂ ltb (left_is s (m * up e) (down e) t (n * up d) (down d)) (left_is t (n * up d) (down d) s (m * up e) (down e))

eq_is : (x y : Float) → T (finite x) → T (finite y) → eq x y ≡ eqb (cross x y) (cross y x)
unfolding eq
eq_is nan y p q = absurd p
eq_is (inf s) y p q = absurd p
eq_is (fin s m e) nan p q = absurd q
eq_is (fin s m e) (inf t) p q = absurd q
eq_is (fin s m e) (fin t n d) p q =
    level_is s (m * up e * down d) t (n * up d * down e)
    ∙ ap₂ eqb (left_is s (m * up e) (down e) t (n * up d) (down d)) (left_is t (n * up d) (down d) s (m * up e) (down e))

le_is : (x y : Float) → T (finite x) → T (finite y) → le x y ≡ leb (cross x y) (cross y x)
unfolding le
le_is x y p q = ap₂ ◌||◌ (lt_is x y p q) (eq_is x y p q) ∙ or_is (cross x y) (cross y x)

pub le→cross : (x y : Float) → T (finite x) → T (finite y) → T (le x y) → cross x y ≤ cross y x
le→cross x y p q h = leb→le (cross x y) (cross y x) (rw (le_is x y p q) at h)

cross→le : (x y : Float) → T (finite x) → T (finite y) → cross x y ≤ cross y x → T (le x y)
cross→le x y p q h = rw (le_is x y p q) (le→leb (cross x y) (cross y x) h)

pub eq→cross : (x y : Float) → T (finite x) → T (finite y) → T (eq x y) → cross x y ≡ cross y x
eq→cross x y p q h = eqb→eq (cross x y) (cross y x) (rw (eq_is x y p q) at h)

-- ---- the zeros, of either sign
abbrev pub Zero : Float → Type 0
Zero x = T (finite x) × (num x ≡ 0)

pub zeros_le : (x y : Float) → Zero x → Zero y → T (le x y)
zeros_le x y p q = cross→le x y p.0 q.0 (rw (p.1, q.1) (omega arith))

-- ---- the three tests tell one order
pub lt_le : (x y : Float) → T (lt x y) → T (le x y)
unfolding le
lt_le x y h = rw (is_true (lt x y) h) tt

pub lt_not_le : (x y : Float) → T (not (is_nan x)) → T (not (is_nan y)) → lt x y ≡ not (le y x)
unfolding is_nan
lt_not_le nan y p q = absurd p
lt_not_le (inf s) nan p q = absurd q
lt_not_le (inf false) (inf false) p q = unfold le in refl
lt_not_le (inf false) (inf true) p q = unfold le in refl
lt_not_le (inf true) (inf false) p q = unfold le in refl
lt_not_le (inf true) (inf true) p q = unfold le in refl
lt_not_le (inf false) (fin t n d) p q = unfold le in refl
lt_not_le (inf true) (fin t n d) p q = unfold le in refl
lt_not_le (fin s m e) nan p q = absurd q
lt_not_le (fin s m e) (inf false) p q = unfold le in refl
lt_not_le (fin s m e) (inf true) p q = unfold le in refl
lt_not_le (fin s m e) (fin t n d) p q =
    let x = fin s m e in
    let y = fin t n d in
    lt_is x y tt tt ∙ ltb_is (cross x y) (cross y x) ∙ ap not (sym (le_is y x tt tt))

pub eq_is_le : (x y : Float) → eq x y ≡ (le x y && le y x)
eq_is_le nan y = unfold le in refl
eq_is_le (inf s) nan = unfold le in refl
eq_is_le (inf false) (inf false) = unfold le in refl
eq_is_le (inf false) (inf true) = unfold le in refl
eq_is_le (inf true) (inf false) = unfold le in refl
eq_is_le (inf true) (inf true) = unfold le in refl
eq_is_le (inf false) (fin t n d) = unfold le in refl
eq_is_le (inf true) (fin t n d) = unfold le in refl
eq_is_le (fin s m e) nan = unfold le in refl
eq_is_le (fin s m e) (inf false) = unfold le in refl
eq_is_le (fin s m e) (inf true) = unfold le in refl
eq_is_le (fin s m e) (fin t n d) =
    let x = fin s m e in
    let y = fin t n d in
    eq_is x y tt tt ∙ eqb_is (cross x y) (cross y x) ∙ ap₂ ◌&&◌ (sym (le_is x y tt tt)) (sym (le_is y x tt tt))

pub le_antisym : (x y : Float) → T (le x y) → T (le y x) → T (eq x y)
le_antisym x y h k = rw (eq_is_le x y) (and_i (le x y) (le y x) h k)

-- ---- a NaN compares with nothing, and the infinities stand at the ends
pub finite_number : (x : Float) → T (finite x) → T (not (is_nan x))
unfolding is_nan
finite_number nan p = p
finite_number (inf s) p = tt
finite_number (fin s m e) p = tt

le_nan : (x : Float) → le x nan ≡ false
unfolding le
le_nan nan = refl
le_nan (inf s) = refl
le_nan (fin s m e) = refl

pub le_number_left : (x y : Float) → T (le x y) → T (not (is_nan x))
unfolding is_nan
le_number_left nan y h = unfold le in h
le_number_left (inf s) y h = tt
le_number_left (fin s m e) y h = tt

pub le_number_right : (x y : Float) → T (le x y) → T (not (is_nan y))
unfolding is_nan
le_number_right x nan h = rw (le_nan x) at h
le_number_right x (inf t) h = tt
le_number_right x (fin t n d) h = tt

pub le_top : (x : Float) → T (not (is_nan x)) → T (le x (inf false))
unfolding is_nan le
le_top nan p = absurd p
le_top (inf false) p = tt
le_top (inf true) p = tt
le_top (fin s m e) p = tt

pub bottom_le : (x : Float) → T (not (is_nan x)) → T (le (inf true) x)
unfolding is_nan le
bottom_le nan p = absurd p
bottom_le (inf false) p = tt
bottom_le (inf true) p = tt
bottom_le (fin s m e) p = tt

pub top_is : (x : Float) → T (le (inf false) x) → x ≡ inf false
unfolding le
top_is nan h = absurd h
top_is (inf false) h = refl
top_is (inf true) h = absurd h
top_is (fin s m e) h = absurd h

-- ---- reflexive and transitive
pub le_refl : (x : Float) → T (not (is_nan x)) → T (le x x)
unfolding is_nan
le_refl nan p = absurd p
le_refl (inf false) p = unfold le in tt
le_refl (inf true) p = unfold le in tt
le_refl (fin s m e) p = cross→le (fin s m e) (fin s m e) tt tt (omega arith)

chain : (p n d p' n' d' p'' n'' d'' : ℕ) → 0 < d' → p * d' + n' * d ≤ p' * d + n * d' → p' * d'' + n'' * d' ≤ p'' * d' + n' * d'' → p * d'' + n'' * d ≤ p'' * d + n * d''
chain p n d p' n' d' p'' n'' d'' D h k = le_of_mul-le-mul_right (omega (arith, mul-le-mul_right d'' h, mul-le-mul_right d k)) D

pub le_trans : (x y z : Float) → T (le x y) → T (le y z) → T (le x z)
le_trans nan y z h k = absurd (unfold le in h)
le_trans (inf true) y z h k = bottom_le z (le_number_right y z k)
le_trans (inf false) y z h k = rw (top_is y h) at k
le_trans (fin s m e) nan z h k = absurd (unfold le in h)
le_trans (fin s m e) (inf true) z h k = absurd (unfold le in h)
le_trans (fin s m e) (inf false) z h k = rw (top_is z k) h
le_trans (fin s m e) (fin t n d) nan h k = absurd (unfold le in k)
le_trans (fin s m e) (fin t n d) (inf true) h k = absurd (unfold le in k)
le_trans (fin s m e) (fin t n d) (inf false) h k = unfold le in tt
le_trans (fin s m e) (fin t n d) (fin u o c) h k =
    let x = fin s m e in
    let y = fin t n d in
    let z = fin u o c in
    cross→le x z tt tt (chain (P x) (N x) (den x) (P y) (N y) (den y) (P z) (N z) (den z) (den_pos y) (le→cross x y tt tt h) (le→cross y z tt tt k))

-- ---- `neg` turns the order round
pub neg_neg : (x : Float) → neg (neg x) ≡ x
unfolding neg
neg_neg nan = refl
neg_neg (inf false) = refl
neg_neg (inf true) = refl
neg_neg (fin false m e) = refl
neg_neg (fin true m e) = refl

pub neg_zero : (x : Float) → Zero x → Zero (neg x)
unfolding neg
neg_zero nan z = z
neg_zero (inf s) z = z
neg_zero (fin s m e) z = z

opposite : (s : Bool) (a b : ℕ) → cond (not s) a b ≡ cond s b a
opposite false a b = refl
opposite true a b = refl

pub neg_le : (x y : Float) → le (neg y) (neg x) ≡ le x y
unfolding neg
neg_le nan y = le_nan (neg y) ∙ unfold le in refl
neg_le (inf s) nan = unfold le in refl
neg_le (inf false) (inf false) = unfold le in refl
neg_le (inf false) (inf true) = unfold le in refl
neg_le (inf true) (inf false) = unfold le in refl
neg_le (inf true) (inf true) = unfold le in refl
neg_le (inf false) (fin t n d) = unfold le in refl
neg_le (inf true) (fin t n d) = unfold le in refl
neg_le (fin s m e) nan = unfold le in refl
neg_le (fin s m e) (inf false) = unfold le in refl
neg_le (fin s m e) (inf true) = unfold le in refl
neg_le (fin s m e) (fin t n d) =
    le_is (fin (not t) n d) (fin (not s) m e) tt tt
    ∙ ap₂ leb (go s (m * up e) (down e) t (n * up d) (down d)) (go t (n * up d) (down d) s (m * up e) (down e))
    ∙ sym (le_is (fin s m e) (fin t n d) tt tt)
  where
    go : (s : Bool) (a b : ℕ) (t : Bool) (c d : ℕ) → cond (not t) 0 c * b + cond (not s) a 0 * d ≡ cond s 0 a * d + cond t c 0 * b
    go s a b t c d = rw (opposite t 0 c, opposite s a 0) (add_comm (cond t c 0 * b) (cond s 0 a * d))
