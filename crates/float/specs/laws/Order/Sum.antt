-- A sum of finite floats is a signed fraction rounded, and that fraction grows with each of the two floats, so the sum does.
-- With an infinity the sum is that infinity, which stands at an end of the order, or a NaN.
use Rattle.std.specs.Prelude.{◌≡◌, ◌⊎◌, Bool, not, cond, ℕ, ◌+◌, ◌*◌, ◌-◌, ◌≤◌, ◌<◌, ltb, Float}
use Rattle.std.proofs.Math.Path.{refl}
use Rattle.std.proofs.Common.{sym, ap, inl, zero-mul, mul_comm, mul-pos, mul-le-mul_right, arith, ltb→lt, nltb→le}
use Rattle.std.proofs.Math.Bool.{true, false}
use Rattle.std.specs.Bool.{beq}
use Rattle.std.proofs.Math.Nat as Nat
use Rattle.std.proofs.Math.Dec.{T}
use Rattle.std.specs.Float.{nan, fin, Format}
use Rattle.std.specs.Float.Ieee.{inf, up, down, round, sum, add, le, is_nan}
use Rattle.std.specs.Float.Ieee.Fits.{down_pos, add-fits}
use Rattle.std.specs.Float.Ieee.Scale.{finite}
use Rattle.std.specs.Float.Ieee.Positive.{den, den_pos}
use Rattle.float.specs.laws.Order.Compare.{P, N, scale, le→cross, Zero, zeros_le, le_antisym, le_top, bottom_le, top_is, le_refl, finite_number}
use Rattle.float.specs.laws.Order.Same.{same_or_zero}
use Rattle.float.specs.laws.Order.Round.{Rounded, ring, rounded_mono, rounded_number}

-- ---- a sum does not turn on the order of its two floats
unlike_comm : (f : Format) (a b c : ℕ) → sum f false a true b c ≡ sum f true b false a c
unfolding sum
unlike_comm f a b c = go (ltb a b) (ltb→lt a b) (nltb→le a b) (ltb b a) (ltb→lt b a) (nltb→le b a)
  where
    go : (u : Bool) → (T u → a < b) → (T (not u) → b ≤ a) → (v : Bool) → (T v → b < a) → (T (not v) → a ≤ b) → cond u (round f true (b - a) c) (round f false (a - b) c) ≡ cond v (round f false (a - b) c) (round f u (b - a) c)
    go true l m true l' m' = let h = l tt in let k = l' tt in absurd (omega arith)
    go true l m false l' m' = refl
    go false l m true l' m' = refl
    go false l m false l' m' = let h = m tt in let k = m' tt in ap (λ (x : ℕ). round f false x c) (omega arith)

sum_comm : (f : Format) (s : Bool) (a : ℕ) (t : Bool) (b c : ℕ) → sum f s a t b c ≡ sum f t b s a c
unfolding sum
sum_comm f false a false b c = ap (λ (x : ℕ). round f false x c) (Nat.add_comm a b)
sum_comm f true a true b c = ap (λ (x : ℕ). round f true x c) (Nat.add_comm a b)
sum_comm f false a true b c = unlike_comm f a b c
sum_comm f true a false b c = sym (unlike_comm f b a c)

pub add_comm : (f : Format) (x y : Float) → add f x y ≡ add f y x
unfolding add
add_comm f nan nan = refl
add_comm f nan (inf t) = refl
add_comm f nan (fin t n d) = refl
add_comm f (inf s) nan = refl
add_comm f (inf false) (inf false) = refl
add_comm f (inf false) (inf true) = refl
add_comm f (inf true) (inf false) = refl
add_comm f (inf true) (inf true) = refl
add_comm f (inf s) (fin t n d) = refl
add_comm f (fin s m e) nan = refl
add_comm f (fin s m e) (inf t) = refl
add_comm f (fin s m e) (fin t n d) = rw (mul_comm (down e) (down d)) (sum_comm f s (m * up e * down d) t (n * up d * down e) (down d * down e))

-- ---- the sum of finite floats as a rounded fraction
unlike_rounded : (f : Format) (a b c : ℕ) → Rounded f (sum f false a true b c) a b c
unfolding sum
unlike_rounded f a b c = go (ltb a b) (ltb→lt a b) (nltb→le a b)
  where
    go : (u : Bool) → (T u → a < b) → (T (not u) → b ≤ a) → Rounded f (cond u (round f true (b - a) c) (round f false (a - b) c)) a b c
    go true l m = let h = l tt in (true, b - a, omega arith, refl)
    go false l m = let h = m tt in (false, a - b, omega arith, refl)

sum_rounded : (f : Format) (s : Bool) (a : ℕ) (t : Bool) (b c : ℕ) → Rounded f (sum f s a t b c) (cond s 0 a + cond t 0 b) (cond s a 0 + cond t b 0) c
sum_rounded f false a false b c = (false, a + b, omega arith, unfold sum in refl)
sum_rounded f true a true b c = (true, a + b, omega arith, unfold sum in refl)
sum_rounded f false a true b c = rw (Nat.add-zero a, Nat.zero-add b) (unlike_rounded f a b c)
sum_rounded f true a false b c = rw (Nat.add-zero a, Nat.zero-add b, ← unlike_comm f b a c) (unlike_rounded f b a c)

add_rounded : (f : Format) (x y : Float) → T (finite x) → T (finite y) → Rounded f (add f x y) (P x * den y + P y * den x) (N x * den y + N y * den x) (den x * den y)
unfolding add
add_rounded f nan y p q = absurd p
add_rounded f (inf s) y p q = absurd p
add_rounded f (fin s m e) nan p q = absurd q
add_rounded f (fin s m e) (inf t) p q = absurd q
add_rounded f (fin s m e) (fin t n d) p q = simp (scale, zero-mul) (sum_rounded f s (m * up e * down d) t (n * up d * down e) (down e * down d))

-- x ≤ x' and y ≤ y' as fractions give x + y ≤ x' + y'
grow : (p n c p' n' c' q m d q' m' d' : ℕ) → p * c' + n' * c ≤ p' * c + n * c' → q * d' + m' * d ≤ q' * d + m * d'
    → (p * d + q * c) * (c' * d') + (n' * d' + m' * c') * (c * d) ≤ (p' * d' + q' * c') * (c * d) + (n * d + m * c) * (c' * d')
grow p n c p' n' c' q m d q' m' d' h k = simp ring (omega (arith, simp ring at (mul-le-mul_right (d * d') h), simp ring at (mul-le-mul_right (c * c') k)))

finite_mono : (f : Format) (x x' y y' : Float) → T (finite x) → T (finite x') → T (finite y) → T (finite y') → T (le x x') → T (le y y') → T (le (add f x y) (add f x' y'))
finite_mono f x x' y y' a a' b b' h k =
    rounded_mono f (add f x y) (P x * den y + P y * den x) (N x * den y + N y * den x) (den x * den y)
    (add f x' y') (P x' * den y' + P y' * den x') (N x' * den y' + N y' * den x') (den x' * den y')
    (mul-pos (den_pos x) (den_pos y)) (mul-pos (den_pos x') (den_pos y')) (add_rounded f x y a b) (add_rounded f x' y' a' b')
    (grow (P x) (N x) (den x) (P x') (N x') (den x') (P y) (N y) (den y) (P y') (N y') (den y') (le→cross x x' a a' h) (le→cross y y' b b' k))

-- ---- a sum with an infinity
add_inf : (f : Format) (s : Bool) (y : Float) → T (not (is_nan (add f (inf s) y))) → add f (inf s) y ≡ inf s
unfolding add is_nan
add_inf f s nan p = absurd p
add_inf f false (inf false) p = refl
add_inf f false (inf true) p = absurd p
add_inf f true (inf false) p = absurd p
add_inf f true (inf true) p = refl
add_inf f s (fin t n d) p = refl

pub add_mono : (f : Format) (x x' y y' : Float) → T (le x x') → T (le y y') → T (not (is_nan (add f x y))) → T (not (is_nan (add f x' y'))) → T (le (add f x y) (add f x' y'))
add_mono f nan x' y y' h k a b = absurd (unfold le in h)
add_mono f (inf true) x' y y' h k a b = rw (add_inf f true y a) (bottom_le (add f x' y') b)
add_mono f (inf false) x' y y' h k a b = rw (top_is x' h, add_inf f false y' (rw (top_is x' h) at b)) (le_top (add f (inf false) y) a)
add_mono f (fin s m e) nan y y' h k a b = absurd (unfold le in h)
add_mono f (fin s m e) (inf true) y y' h k a b = absurd (unfold le in h)
add_mono f (fin s m e) (inf false) y y' h k a b = rw (add_inf f false y' b) (le_top (add f (fin s m e) y) a)
add_mono f (fin s m e) (fin s' m' e') nan y' h k a b = absurd (unfold le in k)
add_mono f (fin s m e) (fin s' m' e') (inf true) y' h k a b = unfold add in bottom_le (add f (fin s' m' e') y') b
add_mono f (fin s m e) (fin s' m' e') (inf false) y' h k a b = rw (top_is y' k) (unfold add le in tt)
add_mono f (fin s m e) (fin s' m' e') (fin t n d) nan h k a b = absurd (unfold le in k)
add_mono f (fin s m e) (fin s' m' e') (fin t n d) (inf true) h k a b = absurd (unfold le in k)
add_mono f (fin s m e) (fin s' m' e') (fin t n d) (inf false) h k a b = unfold add in le_top (add f (fin s m e) (fin t n d)) a
add_mono f (fin s m e) (fin s' m' e') (fin t n d) (fin t' n' d') h k a b = finite_mono f (fin s m e) (fin s' m' e') (fin t n d) (fin t' n' d') tt tt tt tt h k

-- ---- when a sum is no NaN
pub finite_add : (f : Format) (x y : Float) → T (finite x) → T (not (is_nan y)) → T (not (is_nan (add f x y)))
unfolding is_nan
finite_add f nan y p q = absurd p
finite_add f (inf s) y p q = absurd p
finite_add f (fin s m e) nan p q = absurd q
finite_add f (fin s m e) (inf t) p q = unfold add in tt
finite_add f (fin s m e) (fin t n d) p q = rounded_number f (add f (fin s m e) (fin t n d)) _ _ _ (mul-pos (down_pos e) (down_pos d)) (add_rounded f (fin s m e) (fin t n d) tt tt)

pub add_number : (f : Format) (s : Bool) (x y : Float) → T (not (is_nan x)) → T (not (is_nan y)) → (x ≡ inf s → ⊥) → (y ≡ inf s → ⊥) → T (not (is_nan (add f x y)))
unfolding is_nan
add_number f s nan y p q a b = absurd p
add_number f s (inf u) nan p q a b = absurd q
add_number f s (inf u) (inf v) p q a b = unfold add in go s u v a b
  where
    go : (s u v : Bool) → (inf u ≡ inf s → ⊥) → (inf v ≡ inf s → ⊥) → T (not (is_nan (cond (beq u v) (inf u) nan)))
    go s false false a b = tt
    go s true true a b = tt
    go false false true a b = a refl
    go false true false a b = b refl
    go true false true a b = b refl
    go true true false a b = a refl
add_number f s (inf u) (fin t n d) p q a b = unfold add in tt
add_number f s (fin t n d) y p q a b = finite_add f (fin t n d) y tt q

-- ---- a sum with a zero does not turn on the zero's sign, unless it is a zero: one sum is at most the other either way, and both have the format f
finite_zeros : (f : Format) (x x' y : Float) → Zero x → Zero x' → T (finite y) → (add f x y ≡ add f x' y) ⊎ (Zero (add f x y) × Zero (add f x' y))
finite_zeros f x x' y z z' q =
    let r = le_refl y (finite_number y q) in
    let h = finite_mono f x x' y y z.0 z'.0 q q (zeros_le x x' z z') r in
    let k = finite_mono f x' x y y z'.0 z.0 q q (zeros_le x' x z' z) r in
    same_or_zero f (add f x y) (add f x' y) (add-fits f x y) (add-fits f x' y) (le_antisym (add f x y) (add f x' y) h k)

pub zeros_add : (f : Format) (x x' y : Float) → Zero x → Zero x' → (add f x y ≡ add f x' y) ⊎ (Zero (add f x y) × Zero (add f x' y))
zeros_add f nan x' y z z' = absurd z.0
zeros_add f (inf s) x' y z z' = absurd z.0
zeros_add f (fin s m e) nan y z z' = absurd z'.0
zeros_add f (fin s m e) (inf s') y z z' = absurd z'.0
zeros_add f (fin s m e) (fin s' m' e') nan z z' = inl (unfold add in refl)
zeros_add f (fin s m e) (fin s' m' e') (inf t) z z' = inl (unfold add in refl)
zeros_add f (fin s m e) (fin s' m' e') (fin t n d) z z' = finite_zeros f (fin s m e) (fin s' m' e') (fin t n d) z z' tt
