-- The root keeps the order. Were the root of x above that of y, the midpoint of the two would lie below the real root of x and above that of y, so y would be below x.
use Rattle.std.specs.Prelude.{◌≡◌, refl, ◌⊎◌, Bool, true, false, not, ℕ, ◌+◌, ◌*◌, ◌^◌, ◌<◌, Float}
use Rattle.std.proofs.Common.{sym, subst, inl, inr, lt_of_mul-lt-mul_right, arith, T_not, lt→ltb}
use Rattle.std.proofs.Math.Dec.{T, not_T}
use Rattle.std.specs.Float.{nan, inf, fin, binary64}
use Rattle.std.specs.Float.Ieee.{fits, lt, le, eq}
use Rattle.std.specs.Float.Ieee.Scale.{finite}
use Rattle.std.specs.Float.Ieee.Bits.{is_true}
use Rattle.float.specs.Rules.{zero64}
use Rattle.float.specs.Quanta.{quanta}
use Rattle.float.specs.TotalOrder.{negative}
use Rattle.float.specs.laws.Order.{finite_number, le_number_left, le_trans, le_antisym, le_top, le_not_lt, lt_le, lt_le_trans, lt_irrefl, eq_le}
use Rattle.float.specs.laws.OrderTheorems.Value.{lt_size}
use Rattle.sqrt.specs.Root.{root}
use Rattle.sqrt.proofs.RootTheorem.Cases.{positive_sign, root_at_zero}
use Rattle.sqrt.proofs.RootTheorem.Nearest.{sized, nearest_root_lem}

plus : (x : Float) → T (lt zero64 x) → negative x ≡ false
plus x p = positive_sign x (is_true (lt zero64 x) p)

-- of positive finite values the one with fewer quanta is below
quanta_lt : (x y : Float) → T (fits binary64 x) → T (fits binary64 y) → T (finite x) → T (finite y) → T (lt zero64 x) → T (lt zero64 y) → quanta x < quanta y → T (lt x y)
quanta_lt x y h k f g p q l =
    subst T (sym (lt_size x y (quanta x) (quanta y) (sized x h f) (sized y k g)))
    (rw (plus x p, plus y q) (lt→ltb (quanta x) (quanta y) l))

cross : (a b c d : ℕ) → (a + b) * (a + b) < 4 * (c * 2 ^ 1074) → 4 * (d * 2 ^ 1074) < (b + a) * (b + a) → d < c
cross a b c d h k = lt_of_mul-lt-mul_right (2 ^ 1074) (through (2 ^ 1074) h k)
  where
    through : (u : ℕ) → (a + b) * (a + b) < 4 * (c * u) → 4 * (d * u) < (b + a) * (b + a) → d * u < c * u
    through u h k = omega arith

-- ---- finite values above zero
module _ (x y : Float) (h : T (fits binary64 x)) (k : T (fits binary64 y)) (f : T (finite x)) (g : T (finite y)) (p : T (lt zero64 x)) (q : T (lt zero64 y)) where
  not_above : T (le x y) → T (lt (root y) (root x)) → ⊥
  not_above l m =
      let a = nearest_root_lem x h f p in
      let b = nearest_root_lem y k g q in
      let s : T (not (negative (root y))) = subst (λ (u : Bool). T (not u)) (sym (plus (root y) b.above_zero)) tt in
      let c = cross (quanta (root y)) (quanta (root x)) (quanta x) (quanta y) (a.below (root y) b.held s m) (b.above (root x) a.held a.finite_too m) in
      T_not (lt y x) (subst T (le_not_lt x y (finite_number x f) (finite_number y g)) l) (quanta_lt y x k h g f q p c)

  pub mono_positive : T (le x y) → T (le (root x) (root y))
  mono_positive l =
      let a = (nearest_root_lem x h f p).finite_too in
      let b = (nearest_root_lem y k g q).finite_too in
      subst T (sym (le_not_lt (root x) (root y) (finite_number (root x) a) (finite_number (root y) b)))
      (not_T (lt (root y) (root x)) (not_above l))

-- ---- every value that is not below zero
-- it is zero, or finite and above zero, or +∞
kinds : (x : Float) → T (le zero64 x) → T (eq x zero64) ⊎ ((T (finite x) × T (lt zero64 x)) ⊎ (x ≡ inf false))
kinds nan l = absurd (unfold le in l)
kinds (inf true) l = absurd (unfold le in l)
kinds (inf false) l = inr (inr refl)
kinds (fin s m e) l = split (lt zero64 (fin s m e)) refl
  where
    split : (b : Bool) → lt zero64 (fin s m e) ≡ b → T (eq (fin s m e) zero64) ⊎ ((T (finite (fin s m e)) × T (lt zero64 (fin s m e))) ⊎ (fin s m e ≡ inf false))
    split true r = inr (inl (tt, subst T (sym r) tt))
    split false r = inl (le_antisym (fin s m e) zero64 (rw (le_not_lt (fin s m e) zero64 (finite_number (fin s m e) tt) (finite_number zero64 tt), r) tt) l)

top_above : (y : Float) → T (finite y) → T (le (inf false) y) → ⊥
unfolding le
top_above nan f l = f
top_above (inf s) f l = f
top_above (fin s m e) f l = l

root_of_zero : (x : Float) → T (eq x zero64) → root x ≡ x
root_of_zero x z = root_at_zero x (is_true (eq x zero64) z)

pub root_mono : (x y : Float) → T (fits binary64 x) → T (fits binary64 y) → T (le zero64 x) → T (le x y) → T (le (root x) (root y))
root_mono x y h k z l = go (kinds x z) (kinds y (le_trans zero64 x y z l))
  where
    Kind : Float → Type 0
    Kind x = T (eq x zero64) ⊎ ((T (finite x) × T (lt zero64 x)) ⊎ (x ≡ inf false))

    go : Kind x → Kind y → T (le (root x) (root y))
    go (inl a) (inl b) = rw (root_of_zero x a, root_of_zero y b) l
    go (inl a) (inr (inl b)) = rw (root_of_zero x a) (le_trans x zero64 (root y) (eq_le x zero64 a) (lt_le zero64 (root y) (nearest_root_lem y k b.0 b.1).above_zero))
    go (inl a) (inr (inr b)) = rw (root_of_zero x a, b) (unfold root in le_top x (le_number_left x y l))
    go (inr (inl a)) (inl b) = absurd (lt_irrefl zero64 (lt_le_trans zero64 x zero64 a.1 (le_trans x y zero64 l (eq_le y zero64 b))))
    go (inr (inl a)) (inr (inl b)) = mono_positive x y h k a.0 b.0 a.1 b.1 l
    go (inr (inl a)) (inr (inr b)) = rw b (unfold root in le_top (root x) (finite_number (root x) (nearest_root_lem x h a.0 a.1).finite_too))
    go (inr (inr a)) (inl b) = absurd (top_above zero64 tt (le_trans (inf false) y zero64 (subst (λ (t : Float). T (le t y)) a l) (eq_le y zero64 b)))
    go (inr (inr a)) (inr (inl b)) = absurd (top_above y b.0 (subst (λ (t : Float). T (le t y)) a l))
    go (inr (inr a)) (inr (inr b)) = rw (a, b) (unfold root le in tt)
