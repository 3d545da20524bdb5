-- The minimum and the maximum as one choice: z is the first of two floats where that comes before the second in an order R, and the second where that comes before the first.
-- The minimum of two numbers is so chosen by `le`, and their maximum by `ge`, so that what holds of both is proved once, over R.
use Rattle.std.specs.Prelude.{◌≡◌, refl, ◌⊎◌, Bool, true, false, not, cond, T, Float}
use Rattle.std.proofs.Common.{inl, inr}
use Rattle.std.proofs.Math.Bool.{or-false, not-not}
use Rattle.std.specs.Float.Ieee.{lt, le, eq, ne, is_nan}
use Rattle.std.specs.Float.Ieee.Bits.{is_true}
use Rattle.float.specs.Rules.{min, max}
use Rattle.float.specs.laws.Order.Compare.{lt_le, lt_not_le, le_refl, le_antisym}

abbrev pub ge : Float → Float → Bool
ge x y = le y x

abbrev pub Chosen : (Float → Float → Bool) → Float → Float → Float → Type 0
Chosen R z a b = ((z ≡ a) × T (R a b)) ⊎ ((z ≡ b) × T (R b a))

pub before_left : (R : Float → Float → Bool) (z a b : Float) → T (R a a) → Chosen R z a b → T (R z a)
before_left R z a b r (inl p) = rw p.0 r
before_left R z a b r (inr p) = rw p.0 p.1

pub before_right : (R : Float → Float → Bool) (z a b : Float) → T (R b b) → Chosen R z a b → T (R z b)
before_right R z a b r (inl p) = rw p.0 p.1
before_right R z a b r (inr p) = rw p.0 r

pub after_both : (R : Float → Float → Bool) (c z a b : Float) → T (R c a) → T (R c b) → Chosen R z a b → T (R c z)
after_both R c z a b h k (inl p) = rw p.0 h
after_both R c z a b h k (inr p) = rw p.0 k

-- ---- the two are so chosen
by_test : (R : Float → Float → Bool) (t : Bool) (a b : Float) → (T t → T (R b a)) → (T (not t) → T (R a b)) → Chosen R (cond t b a) a b
by_test R true a b f g = inr (refl, f tt)
by_test R false a b f g = inl (refl, g tt)

self : (a : Float) → T (not (is_nan a)) → ne a a ≡ false
unfolding ne
self a p = rw (is_true (eq a a) (le_antisym a a (le_refl a p) (le_refl a p)))

not_lt : (a b : Float) → T (not (is_nan a)) → T (not (is_nan b)) → T (not (lt a b)) → T (le b a)
not_lt a b p q h = rw (lt_not_le a b p q, not-not (le b a)) at h

pub min_chosen : (a b : Float) → T (not (is_nan a)) → T (not (is_nan b)) → Chosen le (min a b) a b
unfolding min
min_chosen a b p q = rw (self a p, or-false (lt b a)) (by_test le (lt b a) a b (lt_le b a) (not_lt b a q p))

pub max_chosen : (a b : Float) → T (not (is_nan a)) → T (not (is_nan b)) → Chosen ge (max a b) a b
unfolding max
max_chosen a b p q = rw (self a p, or-false (lt a b)) (by_test ge (lt a b) a b (lt_le a b) (not_lt a b p q))
