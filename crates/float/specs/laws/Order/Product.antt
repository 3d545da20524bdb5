-- A product of finite floats is a signed fraction rounded, and times a factor that is not below zero that fraction keeps its order, so the product does.
-- An infinity times such a factor is that infinity, which stands at an end of the order, or a NaN. A negated factor negates the product, so that below zero the order turns round.
use Rattle.std.specs.Prelude.{◌≡◌, refl, Bool, true, false, not, cond, ◌⊎◌, ℕ, ◌+◌, ◌*◌, ◌≤◌, T, eqb, Float}
use Rattle.std.proofs.Common.{sym, ap, ◌∙◌, inl, inr, mul-pos, mul-le-mul_right, arith}
use Rattle.std.proofs.Math.Nat as Nat
use Rattle.std.specs.Float.{nan, inf, fin, Format}
use Rattle.std.specs.Float.Ieee.{up, down, unlike, mul, neg, le, is_nan}
use Rattle.std.specs.Float.Ieee.Fits.{up_pos, down_pos}
use Rattle.std.specs.Float.Ieee.Scale.{finite}
use Rattle.std.specs.Float.Ieee.Positive.{den, den_pos}
use Rattle.float.specs.Rules.{zero64}
use Rattle.float.specs.laws.Order.Compare.{none, Zero, P, N, le→cross, le_refl, le_trans, le_top, bottom_le, top_is}
use Rattle.float.specs.laws.Order.Round.{Rounded, ring, rounded_mono, rounded_number, round_not, round_zero}

-- ---- the product of finite floats as a rounded fraction
signs : (s : Bool) (a : ℕ) (t : Bool) (b : ℕ)
    → cond s 0 a * cond t 0 b + cond s a 0 * cond t b 0 + cond (unlike s t) (a * b) 0 ≡ cond s 0 a * cond t b 0 + cond s a 0 * cond t 0 b + cond (unlike s t) 0 (a * b)
signs false a false b = omega arith
signs false a true b = omega arith
signs true a false b = omega arith
signs true a true b = omega arith

mul_rounded : (f : Format) (x y : Float) → T (finite x) → T (finite y) → Rounded f (mul f x y) (P x * P y + N x * N y) (P x * N y + N x * P y) (den x * den y)
unfolding mul
mul_rounded f nan y p q = absurd p
mul_rounded f (inf s) y p q = absurd p
mul_rounded f (fin s m e) nan p q = absurd q
mul_rounded f (fin s m e) (inf t) p q = absurd q
mul_rounded f (fin s m e) (fin t n d) p q = (unlike s t, m * up e * (n * up d), signs s (m * up e) t (n * up d), refl)

pub mul_number : (f : Format) (x y : Float) → T (finite x) → T (finite y) → T (not (is_nan (mul f x y)))
mul_number f x y p q = rounded_number f (mul f x y) _ _ _ (mul-pos (den_pos x) (den_pos y)) (mul_rounded f x y p q)

-- x ≤ x' as fractions gives x * y ≤ x' * y for y at least 0
grow : (p n c p' n' c' q m d : ℕ) → m ≡ 0 → p * c' + n' * c ≤ p' * c + n * c'
    → (p * q + n * m) * (c' * d) + (p' * m + n' * q) * (c * d) ≤ (p' * q + n' * m) * (c * d) + (p * m + n * q) * (c' * d)
grow p n c p' n' c' q m d e h = rw e (simp ring (omega (arith, simp ring at (mul-le-mul_right (q * d) h))))

not_negative : (x : Float) → T (finite x) → T (le zero64 x) → N x ≡ 0
not_negative nan p h = absurd p
not_negative (inf s) p h = absurd p
not_negative (fin false m e) p h = refl
not_negative (fin true m e) p h = omega (arith, le→cross zero64 (fin true m e) tt tt h)

finite_mono : (f : Format) (x x' y : Float) → T (finite x) → T (finite x') → T (finite y) → T (le zero64 y) → T (le x x') → T (le (mul f x y) (mul f x' y))
finite_mono f x x' y a a' b z h =
    rounded_mono f (mul f x y) (P x * P y + N x * N y) (P x * N y + N x * P y) (den x * den y)
    (mul f x' y) (P x' * P y + N x' * N y) (P x' * N y + N x' * P y) (den x' * den y)
    (mul-pos (den_pos x) (den_pos y)) (mul-pos (den_pos x') (den_pos y)) (mul_rounded f x y a b) (mul_rounded f x' y a' b)
    (grow (P x) (N x) (den x) (P x') (N x') (den x') (P y) (N y) (den y) (not_negative y b z) (le→cross x x' a a' h))

-- ---- signs of products
unlike_comm : (s t : Bool) → unlike s t ≡ unlike t s
unlike_comm false false = refl
unlike_comm false true = refl
unlike_comm true false = refl
unlike_comm true true = refl

unlike_not : (s t : Bool) → unlike s (not t) ≡ not (unlike s t)
unlike_not false false = refl
unlike_not false true = refl
unlike_not true false = refl
unlike_not true true = refl

unlike_false : (s : Bool) → unlike s false ≡ s
unlike_false false = refl
unlike_false true = refl

pub mul_comm : (f : Format) (x y : Float) → mul f x y ≡ mul f y x
unfolding mul
mul_comm f nan nan = refl
mul_comm f nan (inf t) = refl
mul_comm f nan (fin t n d) = refl
mul_comm f (inf s) nan = refl
mul_comm f (inf s) (inf t) = ap inf (unlike_comm s t)
mul_comm f (inf s) (fin t n d) = ap (λ (u : Bool). cond (eqb n 0) nan (inf u)) (unlike_comm s t)
mul_comm f (fin s m e) nan = refl
mul_comm f (fin s m e) (inf t) = ap (λ (u : Bool). cond (eqb m 0) nan (inf u)) (unlike_comm s t)
mul_comm f (fin s m e) (fin t n d) = rw (unlike_comm s t, Nat.mul_comm (m * up e) (n * up d), Nat.mul_comm (down e) (down d))

with_inf : (b s t : Bool) → cond b nan (inf (unlike s (not t))) ≡ neg (cond b nan (inf (unlike s t)))
unfolding neg
with_inf true s t = refl
with_inf false s t = ap inf (unlike_not s t)

pub mul_neg : (f : Format) (x y : Float) → mul f x (neg y) ≡ neg (mul f x y)
unfolding mul neg
mul_neg f nan y = refl
mul_neg f (inf s) nan = refl
mul_neg f (inf s) (inf t) = ap inf (unlike_not s t)
mul_neg f (inf s) (fin t n d) = with_inf (eqb n 0) s t
mul_neg f (fin s m e) nan = refl
mul_neg f (fin s m e) (inf t) = with_inf (eqb m 0) s t
mul_neg f (fin s m e) (fin t n d) = rw (unlike_not s t) (round_not f (unlike s t) (m * up e * (n * up d)) (down e * down d))

-- ---- a product with an infinity
inf_mul : (f : Format) (s : Bool) (y : Float) → T (le zero64 y) → T (not (is_nan (mul f (inf s) y))) → mul f (inf s) y ≡ inf s
unfolding mul is_nan
inf_mul f s nan z p = absurd p
inf_mul f s (inf false) z p = ap inf (unlike_false s)
inf_mul f s (inf true) z p = absurd (unfold le in z)
inf_mul f s (fin false n d) z p = go (eqb n 0) p
  where
    go : (b : Bool) → T (not (is_nan (cond b nan (inf (unlike s false))))) → cond b nan (inf (unlike s false)) ≡ inf s
    go true q = absurd q
    go false q = ap inf (unlike_false s)
inf_mul f s (fin true n d) z p = absurd (rw (none n (up d) (up_pos d) (not_negative (fin true n d) tt z)) at p)

pub mul_mono_left : (f : Format) (x x' y : Float) → T (finite y) → T (le zero64 y) → T (le x x') → T (not (is_nan (mul f x y))) → T (not (is_nan (mul f x' y))) → T (le (mul f x y) (mul f x' y))
mul_mono_left f nan x' y p z h a b = absurd (unfold le in h)
mul_mono_left f (inf true) x' y p z h a b = rw (inf_mul f true y z a) (bottom_le (mul f x' y) b)
mul_mono_left f (inf false) x' y p z h a b = rw (top_is x' h) (le_refl (mul f (inf false) y) a)
mul_mono_left f (fin s m e) nan y p z h a b = absurd (unfold le in h)
mul_mono_left f (fin s m e) (inf true) y p z h a b = absurd (unfold le in h)
mul_mono_left f (fin s m e) (inf false) y p z h a b = rw (inf_mul f false y z b) (le_top (mul f (fin s m e) y) a)
mul_mono_left f (fin s m e) (fin s' m' e') y p z h a b = finite_mono f (fin s m e) (fin s' m' e') y tt tt p z h

-- ---- both factors grow
upward : (x : Float) → T (le zero64 x) → T (finite x) ⊎ (x ≡ inf false)
unfolding le
upward nan z = absurd z
upward (inf false) z = inr refl
upward (inf true) z = absurd z
upward (fin s m e) z = inl tt

finite_under : (x x' : Float) → T (le zero64 x) → T (le x x') → T (finite x') → T (finite x)
finite_under x x' z h p = elim (upward x z) [ inl q ↦ q | inr e ↦ absurd (rw (top_is x' (rw e at h)) at p) ]

pub mul_mono : (f : Format) (x x' y y' : Float) → T (le zero64 x) → T (le x x') → T (le zero64 y) → T (le y y') → T (not (is_nan (mul f x y))) → T (not (is_nan (mul f x' y'))) → T (le (mul f x y) (mul f x' y'))
mul_mono f x x' y y' z h w k a b = go (upward x' z') (upward y' w')
  where
    z' : T (le zero64 x')
    z' = le_trans zero64 x x' z h

    w' : T (le zero64 y')
    w' = le_trans zero64 y y' w k

    go : T (finite x') ⊎ (x' ≡ inf false) → T (finite y') ⊎ (y' ≡ inf false) → T (le (mul f x y) (mul f x' y'))
    go (inr e) q = rw (e, inf_mul f false y' w' (rw e at b)) (le_top (mul f x y) a)
    go (inl p) (inr e) = rw (mul_comm f x' y', e, inf_mul f false x' z' (rw (mul_comm f x' y', e) at b)) (le_top (mul f x y) a)
    go (inl p) (inl q) =
        let r : T (finite x) = finite_under x x' z h p in
        let t : T (finite y) = finite_under y y' w k q in
        le_trans (mul f x y) (mul f x' y) (mul f x' y') (finite_mono f x x' y r p t w h) (rw (mul_comm f x' y, mul_comm f x' y') (finite_mono f y y' x' t q p z' k))

-- ---- a zero times y is a zero where y is finite, and otherwise a NaN
zero_mul : (f : Format) (x y : Float) → Zero x → T (finite y) → Zero (mul f x y)
zero_mul f nan y z q = absurd z.0
zero_mul f (inf s) y z q = absurd z.0
zero_mul f (fin s m e) nan z q = absurd q
zero_mul f (fin s m e) (inf t) z q = absurd q
zero_mul f (fin s m e) (fin t n d) z q = unfold mul in rw (z.1, Nat.zero-mul, round_zero f (unlike s t) (down e * down d) (mul-pos (down_pos e) (down_pos d))) (tt, refl)

nan_mul : (f : Format) (x y : Float) → Zero x → T (not (finite y)) → mul f x y ≡ nan
unfolding mul
nan_mul f nan y z q = refl
nan_mul f (inf s) y z q = absurd z.0
nan_mul f (fin s m e) nan z q = refl
nan_mul f (fin s m e) (inf t) z q = rw (none m (up e) (up_pos e) z.1)
nan_mul f (fin s m e) (fin t n d) z q = absurd q

pub zeros_mul : (f : Format) (x x' y : Float) → Zero x → Zero x' → (mul f x y ≡ mul f x' y) ⊎ (Zero (mul f x y) × Zero (mul f x' y))
zeros_mul f x x' nan z z' = inl (nan_mul f x nan z tt ∙ sym (nan_mul f x' nan z' tt))
zeros_mul f x x' (inf t) z z' = inl (nan_mul f x (inf t) z tt ∙ sym (nan_mul f x' (inf t) z' tt))
zeros_mul f x x' (fin t n d) z z' = inr (zero_mul f x (fin t n d) z tt, zero_mul f x' (fin t n d) z' tt)
