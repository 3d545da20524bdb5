-- The laws of the order of floats, and of negation, sums, differences, products, minimum and maximum in that order.
-- They hold for every float and both formats, with subnormal results, overflow, infinities and both zeros. Only `eq_alike` asks that a float fits its format.
-- `T (le x y)` says that x is at most y and `T (lt x y)` that x is below y, as Rust's `<=` and `<` compare. A NaN compares with nothing, so where a result can be a NaN
-- the law asks that it is none.
mod Compare
mod Round
mod Sum
mod Product
mod Same
mod Choice
use Rattle.std.specs.Prelude.{◌≡◌, refl, ◌⊎◌, Bool, true, false, not, cond, ◌&&◌, ◌||◌, T, eqb, Float}
use Rattle.std.proofs.Common.{sym, ap, ap₂, ◌∙◌, inl, inr, zero-mul, eqb→eq, T_not}
use Rattle.std.proofs.Math.Bool.{not-not}
use Rattle.std.proofs.Math.Dec.{not_T}
use Rattle.std.specs.Float.{nan, inf, fin, Format}
use Rattle.std.specs.Float.Ieee.{up, neg, add, sub, mul, lt, le, eq, ne, fits, is_nan}
use Rattle.std.specs.Float.Ieee.Fits.{up_pos, and_l, and_r}
use Rattle.std.specs.Float.Ieee.Bits.{is_true, is_false}
use Rattle.std.specs.Float.Ieee.Scale.{finite}
use Rattle.float.specs.Rules.{zero64, min, max}
use Rattle.float.specs.laws.NumberTests.{same, eq→eqb}
use Compare.{Zero}

-- ---- the words of the laws

-- x is no NaN
abbrev pub Number : Float → Type 0
Number x = T (not (is_nan x))

-- x is neither a NaN nor an infinity
abbrev pub Finite : Float → Type 0
Finite x = T (finite x)

-- x is zero, of either sign
abbrev pub is_zero : Float → Bool
is_zero nan = false
is_zero (inf s) = false
is_zero (fin s m e) = eqb m 0

-- x and y are the same but perhaps for the sign of a zero
abbrev pub Alike : Float → Float → Type 0
Alike x y = (x ≡ y) ⊎ (T (is_zero x) × T (is_zero y))

-- a finite float is a number
pub finite_number : (x : Float) → Finite x → Number x
finite_number x p = Compare.finite_number x p

-- ---- the order

-- what is at most something is a number
pub le_number_left : (x y : Float) → T (le x y) → Number x
le_number_left x y h = Compare.le_number_left x y h

-- what something is at most is a number
pub le_number_right : (x y : Float) → T (le x y) → Number y
le_number_right x y h = Compare.le_number_right x y h

-- what is below is at most
pub lt_le : (x y : Float) → T (lt x y) → T (le x y)
lt_le x y h = Compare.lt_le x y h

-- what is below something is a number
pub lt_number_left : (x y : Float) → T (lt x y) → Number x
lt_number_left x y h = le_number_left x y (lt_le x y h)

-- what something is below is a number
pub lt_number_right : (x y : Float) → T (lt x y) → Number y
lt_number_right x y h = le_number_right x y (lt_le x y h)

-- a number is at most itself
pub le_refl : (x : Float) → Number x → T (le x x)
le_refl x p = Compare.le_refl x p

-- at most is transitive
pub le_trans : (x y z : Float) → T (le x y) → T (le y z) → T (le x z)
le_trans x y z h k = Compare.le_trans x y z h k

-- of numbers, below is the opposite of at most the other way round
pub lt_not_le : (x y : Float) → Number x → Number y → lt x y ≡ not (le y x)
lt_not_le x y p q = Compare.lt_not_le x y p q

-- of numbers, at most is the opposite of below the other way round
pub le_not_lt : (x y : Float) → Number x → Number y → le x y ≡ not (lt y x)
le_not_lt x y p q = sym (ap not (lt_not_le y x q p) ∙ not-not (le x y))

either : (b : Bool) → T b ⊎ T (not b)
either true = inl tt
either false = inr tt

-- of two numbers one is at most the other
pub le_total : (x y : Float) → Number x → Number y → T (le x y) ⊎ T (le y x)
le_total x y p q = elim (either (le x y)) [ inl h ↦ inl h | inr h ↦ inr (lt_le y x (rw (lt_not_le y x q p) h)) ]

-- floats that are at most each other are equal
pub le_antisym : (x y : Float) → T (le x y) → T (le y x) → T (eq x y)
le_antisym x y h k = Compare.le_antisym x y h k

-- equal floats are at most each other
pub eq_le : (x y : Float) → T (eq x y) → T (le x y)
eq_le x y h = and_l (le x y) (le y x) (rw (Compare.eq_is_le x y) at h)

-- equality goes both ways
pub eq_sym : (x y : Float) → T (eq x y) → T (eq y x)
eq_sym x y h = le_antisym y x (and_r (le x y) (le y x) (rw (Compare.eq_is_le x y) at h)) (eq_le x y h)

-- what is below is not at least
not_le : (x y : Float) → T (lt x y) → T (le y x) → ⊥
not_le x y h = T_not (le y x) (rw (lt_not_le x y (lt_number_left x y h) (lt_number_right x y h)) at h)

-- below and then at most is below
pub lt_le_trans : (x y z : Float) → T (lt x y) → T (le y z) → T (lt x z)
lt_le_trans x y z h k = rw (lt_not_le x z (lt_number_left x y h) (le_number_right y z k)) (not_T (le z x) (λ g. not_le x y h (le_trans y z x k g)))

-- at most and then below is below
pub le_lt_trans : (x y z : Float) → T (le x y) → T (lt y z) → T (lt x z)
le_lt_trans x y z h k = rw (lt_not_le x z (le_number_left x y h) (lt_number_right y z k)) (not_T (le z x) (λ g. not_le y z k (le_trans z x y g h)))

-- below is transitive
pub lt_trans : (x y z : Float) → T (lt x y) → T (lt y z) → T (lt x z)
lt_trans x y z h k = lt_le_trans x y z h (lt_le y z k)

-- nothing is below itself
pub lt_irrefl : (x : Float) → T (lt x x) → ⊥
lt_irrefl x h = not_le x x h (lt_le x x h)

-- a number is at most ∞
pub le_top : (x : Float) → Number x → T (le x (inf false))
le_top x p = Compare.le_top x p

-- a number is at least -∞
pub bottom_le : (x : Float) → Number x → T (le (inf true) x)
bottom_le x p = Compare.bottom_le x p

-- ---- negation

-- a number's negation is a number
pub neg_number : (x : Float) → Number x → Number (neg x)
unfolding neg is_nan
neg_number nan p = p
neg_number (inf s) p = tt
neg_number (fin s m e) p = tt

-- a finite float's negation is finite
pub neg_finite : (x : Float) → Finite x → Finite (neg x)
unfolding neg
neg_finite nan p = p
neg_finite (inf s) p = p
neg_finite (fin s m e) p = tt

-- negation turns the order round
pub neg_anti : (x y : Float) → T (le x y) → T (le (neg y) (neg x))
neg_anti x y h = rw (Compare.neg_le x y) h

-- negation turns below round
pub neg_anti_lt : (x y : Float) → T (lt x y) → T (lt (neg y) (neg x))
neg_anti_lt x y h =
    let p = lt_number_left x y h in
    let q = lt_number_right x y h in
    rw (lt_not_le (neg y) (neg x) (neg_number y q) (neg_number x p), Compare.neg_le y x, ← lt_not_le x y p q) h

-- negated twice, a float is as it was
pub neg_neg : (x : Float) → neg (neg x) ≡ x
neg_neg x = Compare.neg_neg x

-- ---- sums and differences

-- the order of the two floats does not matter to their sum
pub add_comm : (f : Format) (x y : Float) → add f x y ≡ add f y x
add_comm f x y = Sum.add_comm f x y

-- a finite float plus a number is a number
pub add_number_left : (f : Format) (x y : Float) → Finite x → Number y → Number (add f x y)
add_number_left f x y p q = Sum.finite_add f x y p q

-- a number plus a finite float is a number
pub add_number_right : (f : Format) (x y : Float) → Number x → Finite y → Number (add f x y)
add_number_right f x y p q = rw (add_comm f x y) (add_number_left f y x q p)

-- a sum is a number where both floats are above -∞, and where both are below ∞
pub add_number : (f : Format) (x y : Float) → (T (lt (inf true) x) × T (lt (inf true) y)) ⊎ (T (lt x (inf false)) × T (lt y (inf false))) → Number (add f x y)
add_number f x y (inl h) =
    Sum.add_number f true x y (lt_number_right (inf true) x h.0) (lt_number_right (inf true) y h.1)
    (λ e. lt_irrefl (inf true) (rw e at h.0)) (λ e. lt_irrefl (inf true) (rw e at h.1))
add_number f x y (inr h) =
    Sum.add_number f false x y (lt_number_left x (inf false) h.0) (lt_number_left y (inf false) h.1)
    (λ e. lt_irrefl (inf false) (rw e at h.0)) (λ e. lt_irrefl (inf false) (rw e at h.1))

-- a sum grows with its two floats
pub add_mono : (f : Format) (x x' y y' : Float) → T (le x x') → T (le y y') → Number (add f x y) → Number (add f x' y') → T (le (add f x y) (add f x' y'))
add_mono f x x' y y' h k p q = Sum.add_mono f x x' y y' h k p q

-- a finite float less a number is a number
pub sub_number_left : (f : Format) (x y : Float) → Finite x → Number y → Number (sub f x y)
unfolding sub
sub_number_left f x y p q = add_number_left f x (neg y) p (neg_number y q)

-- a number less a finite float is a number
pub sub_number_right : (f : Format) (x y : Float) → Number x → Finite y → Number (sub f x y)
unfolding sub
sub_number_right f x y p q = add_number_right f x (neg y) p (neg_finite y q)

-- a difference grows with its first float and falls with its second
pub sub_mono : (f : Format) (x x' y y' : Float) → T (le x x') → T (le y' y) → Number (sub f x y) → Number (sub f x' y') → T (le (sub f x y) (sub f x' y'))
unfolding sub
sub_mono f x x' y y' h k p q = add_mono f x x' (neg y) (neg y') h (neg_anti y' y k) p q

-- ---- products

-- the order of the two factors does not matter to their product
pub mul_comm : (f : Format) (x y : Float) → mul f x y ≡ mul f y x
mul_comm f x y = Product.mul_comm f x y

-- a product of finite floats is a number
pub mul_finite_number : (f : Format) (x y : Float) → Finite x → Finite y → Number (mul f x y)
mul_finite_number f x y p q = Product.mul_number f x y p q

-- a number times a finite float that is not zero is a number
pub mul_number : (f : Format) (x c : Float) → Number x → Finite c → T (not (is_zero c)) → Number (mul f x c)
mul_number f nan c p q r = absurd (unfold is_nan in p)
mul_number f (inf s) nan p q r = absurd q
mul_number f (inf s) (inf t) p q r = absurd q
mul_number f (inf s) (fin t n d) p q r = unfold mul in rw (is_false (eqb n 0) r) (unfold is_nan in tt)
mul_number f (fin s m e) c p q r = mul_finite_number f (fin s m e) c tt q

-- the two readings of `is_zero`
zero_is : (x : Float) → T (is_zero x) → Zero x
zero_is nan z = absurd z
zero_is (inf s) z = absurd z
zero_is (fin s m e) z = (tt, rw (eqb→eq m 0 z) (zero-mul (up e)))

is_zero_lem : (x : Float) → Zero x → T (is_zero x)
is_zero_lem nan z = z.0
is_zero_lem (inf s) z = z.0
is_zero_lem (fin s m e) z = eq→eqb m 0 (Compare.none m (up e) (up_pos e) z.1)

-- zeros are at most each other
zeros_le : (x y : Float) → T (is_zero x) → T (is_zero y) → T (le x y)
zeros_le x y p q = Compare.zeros_le x y (zero_is x p) (zero_is y q)

-- times a finite float above zero, the order stays
pub mul_mono_pos : (f : Format) (x y c : Float) → Finite c → T (lt zero64 c) → T (le x y) → T (le (mul f x c) (mul f y c))
mul_mono_pos f x y c p q h =
    let r = not_T (is_zero c) (λ z. not_le zero64 c q (zeros_le c zero64 z tt)) in
    Product.mul_mono_left f x y c p (lt_le zero64 c q) h (mul_number f x c (le_number_left x y h) p r) (mul_number f y c (le_number_right x y h) p r)

-- times a finite float below zero, the order turns round
pub mul_anti_neg : (f : Format) (x y c : Float) → Finite c → T (lt c zero64) → T (le x y) → T (le (mul f y c) (mul f x c))
mul_anti_neg f x y c p q h =
    let above : T (lt zero64 (neg c)) = le_lt_trans zero64 (neg zero64) (neg c) (unfold neg le in tt) (neg_anti_lt c zero64 q) in
    rw (Product.mul_neg f x c, Product.mul_neg f y c, Compare.neg_le (mul f y c) (mul f x c)) at (mul_mono_pos f x y (neg c) (neg_finite c p) above h)

-- times a negated float, a product is negated
pub mul_neg : (f : Format) (x y : Float) → mul f x (neg y) ≡ neg (mul f x y)
mul_neg f x y = Product.mul_neg f x y

-- a product of factors not below zero grows with the two factors
pub mul_mono : (f : Format) (x x' y y' : Float) → T (le zero64 x) → T (le x x') → T (le zero64 y) → T (le y y') → Number (mul f x y) → Number (mul f x' y') → T (le (mul f x y) (mul f x' y'))
mul_mono f x x' y y' z h w k p q = Product.mul_mono f x x' y y' z h w k p q

-- ---- the sign of a zero does not show

-- a float is like itself
pub alike_refl : (x : Float) → Alike x x
alike_refl x = inl refl

-- alike goes both ways
pub alike_sym : {x y : Float} → Alike x y → Alike y x
alike_sym (inl e) = inl (sym e)
alike_sym (inr z) = inr (z.1, z.0)

-- alike is transitive
pub alike_trans : {x y z : Float} → Alike x y → Alike y z → Alike x z
alike_trans (inl p) (inl q) = inl (p ∙ q)
alike_trans (inl p) (inr q) = inr (rw p q.0, q.1)
alike_trans (inr p) (inl q) = inr (p.0, rw q at p.1)
alike_trans (inr p) (inr q) = inr (p.0, q.1)

alike_le : {x y : Float} → Number x → Alike x y → T (le x y)
alike_le {x} {y} p (inl e) = rw (← e) (le_refl x p)
alike_le {x} {y} p (inr z) = zeros_le x y z.0 z.1

ge_alike : {x y : Float} → Number x → Alike x y → T (le y x)
ge_alike {x} {y} p h = alike_le (le_number_right x y (alike_le p h)) (alike_sym h)

-- numbers that are alike are equal
pub alike_eq : {x y : Float} → Number x → Alike x y → T (eq x y)
alike_eq {x} {y} p h = le_antisym x y (alike_le p h) (ge_alike p h)

of_zeros : {x y : Float} → (x ≡ y) ⊎ (Zero x × Zero y) → Alike x y
of_zeros (inl e) = inl e
of_zeros {x} {y} (inr z) = inr (is_zero_lem x z.0, is_zero_lem y z.1)

-- equal floats of one format are alike
pub eq_alike : (f : Format) (x y : Float) → T (fits f x) → T (fits f y) → T (eq x y) → Alike x y
eq_alike f x y p q h = of_zeros (Same.same_or_zero f x y p q h)

-- what takes zeros to floats that are alike takes floats that are alike to such
under : (g : Float → Float) (x y : Float) → (Zero x → Zero y → (g x ≡ g y) ⊎ (Zero (g x) × Zero (g y))) → Alike x y → Alike (g x) (g y)
under g x y k (inl e) = inl (ap g e)
under g x y k (inr z) = of_zeros (k (zero_is x z.0) (zero_is y z.1))

-- the negations of floats that are alike are alike
pub neg_alike : {x y : Float} → Alike x y → Alike (neg x) (neg y)
neg_alike {x} {y} h = under neg x y (λ p q. inr (Compare.neg_zero x p, Compare.neg_zero y q)) h

-- the sums of floats that are alike are alike
pub add_alike : (f : Format) {x x' y y' : Float} → Alike x x' → Alike y y' → Alike (add f x y) (add f x' y')
add_alike f {x} {x'} {y} {y'} h k =
    alike_trans (under (λ z. add f z y) x x' (Sum.zeros_add f x x' y) h)
    (rw (add_comm f x' y, add_comm f x' y') (under (λ z. add f z x') y y' (Sum.zeros_add f y y' x') k))

-- the differences of floats that are alike are alike
pub sub_alike : (f : Format) {x x' y y' : Float} → Alike x x' → Alike y y' → Alike (sub f x y) (sub f x' y')
unfolding sub
sub_alike f h k = add_alike f h (neg_alike k)

-- the products of floats that are alike are alike
pub mul_alike : (f : Format) {x x' y y' : Float} → Alike x x' → Alike y y' → Alike (mul f x y) (mul f x' y')
mul_alike f {x} {x'} {y} {y'} h k =
    alike_trans (under (λ z. mul f z y) x x' (Product.zeros_mul f x x' y) h)
    (rw (mul_comm f x' y, mul_comm f x' y') (under (λ z. mul f z x') y y' (Product.zeros_mul f y y' x') k))

-- a test R of order, which `le` on either side leaves true, is the same of floats that are alike
test_alike : (R : Float → Float → Bool) → ((x y : Float) → T (R x y) → T (le x y)) → ((x' x y y' : Float) → T (le x' x) → T (R x y) → T (le y y') → T (R x' y')) → {x x' y y' : Float} → Alike x x' → Alike y y' → R x y ≡ R x' y'
test_alike R to along {x} {x'} {y} {y'} h k = same (R x y) (R x' y') (go x x' y y' h k) (go x' x y' y (alike_sym h) (alike_sym k))
  where
    go : (x x' y y' : Float) → Alike x x' → Alike y y' → T (R x y) → T (R x' y')
    go x x' y y' h k r = along x' x y y' (ge_alike (le_number_left x y (to x y r)) h) r (alike_le (le_number_right x y (to x y r)) k)

-- `le` is the same of floats that are alike
pub le_alike : {x x' y y' : Float} → Alike x x' → Alike y y' → le x y ≡ le x' y'
le_alike h k = test_alike le (λ x y r. r) (λ x' x y y' a r b. le_trans x' x y' a (le_trans x y y' r b)) h k

-- `lt` is the same of floats that are alike
pub lt_alike : {x x' y y' : Float} → Alike x x' → Alike y y' → lt x y ≡ lt x' y'
lt_alike h k = test_alike lt lt_le (λ x' x y y' a r b. le_lt_trans x' x y' a (lt_le_trans x y y' r b)) h k

-- `eq` is the same of floats that are alike
pub eq_same : {x x' y y' : Float} → Alike x x' → Alike y y' → eq x y ≡ eq x' y'
eq_same {x} {x'} {y} {y'} h k = Compare.eq_is_le x y ∙ ap₂ ◌&&◌ (le_alike h k) (le_alike k h) ∙ sym (Compare.eq_is_le x' y')

-- ---- minimum and maximum

-- the minimum is at most the first float
pub min_le_left : (a b : Float) → Number a → Number b → T (le (min a b) a)
min_le_left a b p q = Choice.before_left le (min a b) a b (le_refl a p) (Choice.min_chosen a b p q)

-- the minimum is at most the second float
pub min_le_right : (a b : Float) → Number a → Number b → T (le (min a b) b)
min_le_right a b p q = Choice.before_right le (min a b) a b (le_refl b q) (Choice.min_chosen a b p q)

-- what is at most both floats is at most their minimum
pub le_min : (c a b : Float) → T (le c a) → T (le c b) → T (le c (min a b))
le_min c a b h k = Choice.after_both le c (min a b) a b h k (Choice.min_chosen a b (le_number_right c a h) (le_number_right c b k))

-- the first float is at most the maximum
pub le_max_left : (a b : Float) → Number a → Number b → T (le a (max a b))
le_max_left a b p q = Choice.before_left Choice.ge (max a b) a b (le_refl a p) (Choice.max_chosen a b p q)

-- the second float is at most the maximum
pub le_max_right : (a b : Float) → Number a → Number b → T (le b (max a b))
le_max_right a b p q = Choice.before_right Choice.ge (max a b) a b (le_refl b q) (Choice.max_chosen a b p q)

-- what both floats are at most, their maximum is at most
pub max_le : (a b c : Float) → T (le a c) → T (le b c) → T (le (max a b) c)
max_le a b c h k = Choice.after_both Choice.ge c (max a b) a b h k (Choice.max_chosen a b (le_number_left a c h) (le_number_left b c k))

-- the minimum of numbers is a number
pub min_number : (a b : Float) → Number a → Number b → Number (min a b)
min_number a b p q = le_number_left (min a b) a (min_le_left a b p q)

-- the maximum of numbers is a number
pub max_number : (a b : Float) → Number a → Number b → Number (max a b)
max_number a b p q = le_number_right a (max a b) (le_max_left a b p q)

-- a number is equal to itself
pub itself : (a : Float) → Number a → ne a a ≡ false
unfolding ne
itself a p = rw (is_true (eq a a) (le_antisym a a (le_refl a p) (le_refl a p)))

-- the lower of ∞ and a number is the number
pub min_top : (a : Float) → Number a → min (inf false) a ≡ a
unfolding min lt ne eq is_nan
min_top nan p = absurd p
min_top (inf true) p = refl
min_top (inf false) p = refl
min_top (fin s m e) p = refl

-- the higher of -∞ and a number is the number
pub max_bottom : (a : Float) → Number a → max (inf true) a ≡ a
unfolding max lt ne eq is_nan
max_bottom nan p = absurd p
max_bottom (inf true) p = refl
max_bottom (inf false) p = refl
max_bottom (fin s m e) p = refl

-- the minimum grows with the two floats
pub min_mono : (a a' b b' : Float) → T (le a a') → T (le b b') → T (le (min a b) (min a' b'))
min_mono a a' b b' h k =
    let p = le_number_left a a' h in
    let q = le_number_left b b' k in
    le_min (min a b) a' b' (le_trans (min a b) a a' (min_le_left a b p q) h) (le_trans (min a b) b b' (min_le_right a b p q) k)

-- the maximum grows with the two floats
pub max_mono : (a a' b b' : Float) → T (le a a') → T (le b b') → T (le (max a b) (max a' b'))
max_mono a a' b b' h k =
    let p = le_number_right a a' h in
    let q = le_number_right b b' k in
    max_le a b (max a' b') (le_trans a a' (max a' b') h (le_max_left a' b' p q)) (le_trans b b' (max a' b') k (le_max_right a' b' p q))

cond_alike : (t : Bool) {x x' y y' : Float} → Alike x x' → Alike y y' → Alike (cond t x y) (cond t x' y')
cond_alike true h k = h
cond_alike false h k = k

-- minima of floats that are alike are alike
pub min_alike : {a a' b b' : Float} → Alike a a' → Alike b b' → Alike (min a b) (min a' b')
unfolding min ne
min_alike {a} {a'} {b} {b'} h k = rw (lt_alike k h, eq_same h h) (cond_alike (lt b' a' || not (eq a' a')) k h)

-- maxima of floats that are alike are alike
pub max_alike : {a a' b b' : Float} → Alike a a' → Alike b b' → Alike (max a b) (max a' b')
unfolding max ne
max_alike {a} {a'} {b} {b'} h k = rw (lt_alike h k, eq_same h h) (cond_alike (lt a' b' || not (eq a' a')) k h)

-- ---- for `search`

-- `search float_order` proves a comparison from comparisons among the hypotheses, through sums, products, minima and maxima
pub ruleset float_order = (finite_number, le_number_left, le_number_right, lt_number_left, lt_number_right, lt_le, le_refl, le_trans, lt_le_trans, le_lt_trans, lt_trans, le_top, bottom_le, neg_number, neg_finite, neg_anti, neg_anti_lt, add_number_left, add_number_right, add_mono, sub_number_left, sub_number_right, sub_mono, mul_finite_number, mul_mono_pos, mul_anti_neg, mul_mono, min_le_left, min_le_right, le_min, le_max_left, le_max_right, max_le, min_number, max_number, min_mono, max_mono)
