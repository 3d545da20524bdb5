-- The difference of two floats where the signs of zeros may differ: beside a float that is not zero the sign of a zero does not show, and a
-- float less itself is always the same zero.
use Rattle.std.specs.Prelude.{ℕ, ◌*◌, ◌<◌, ◌≡◌, Bool, true, false, not, ℤ, T, eqb, ltb, Float}
use Rattle.std.proofs.Math.Nat as Nat
use Rattle.std.proofs.Common.{arith, sym, ap₂, ◌∙◌, inl, inr, eqb→eq, lt-ltb, le-ltb}
use Rattle.std.proofs.Math.Path.{refl}
use Rattle.std.specs.Float.{nan, inf, fin, Format, binary64}
use Rattle.std.specs.Float.Ieee.{up, down, round, sum, add, sub, neg}
use Rattle.std.specs.Float.Ieee.Bits.{is_false}
use Rattle.std.specs.Float.Ieee.Fits.{up_pos, down_pos}
use Rattle.std.specs.Float.Ieee.Scale.{round_same}
use Rattle.std.proofs.lemmas.Bool.{eqb-false}
use Rattle.float.specs.Arithmetic.{◌⊖◌}
use Rattle.float.specs.laws.Order.{Finite, is_zero, Alike, add_comm}
use Rattle.keys.specs.laws.SortingTheorems.{by_test}

-- nothing and b / c with the sign t
sum_zero : (f : Format) (s t : Bool) (b c : ℕ) → 0 < b → sum f s 0 t b c ≡ round f t b c
unfolding sum
sum_zero f false false b c h = rw (Nat.zero-add b)
sum_zero f true true b c h = rw (Nat.zero-add b)
sum_zero f false true b c h = rw (lt-ltb 0 b h, Nat.sub-zero b)
sum_zero f true false b c h = rw (lt-ltb 0 b h, Nat.sub-zero b)

not_none : (n : ℕ) → T (not (eqb n 0)) → 0 < n
not_none n h = let other = eqb-false n 0 (is_false (eqb n 0) h) in omega arith

-- a zero and a float that is not zero
zero_add : (f : Format) (s : Bool) (m : ℕ) (e : ℤ) (t : Bool) (n : ℕ) (d : ℤ) → m ≡ 0 → 0 < n → add f (fin s m e) (fin t n d) ≡ round f t (n * up d) (down d)
unfolding add
zero_add f s m e t n d z h =
    let none : m * up e * down d ≡ 0 = rw (z, Nat.zero-mul (up e), Nat.zero-mul (down d)) in
    rw none
    (sum_zero f s t (n * up d * down e) (down e * down d) (Nat.mul-pos (Nat.mul-pos h (up_pos d)) (down_pos e))
    ∙ round_same f t (n * up d * down e) (down e * down d) (n * up d) (down d) (Nat.mul-pos (down_pos e) (down_pos d)) (down_pos d) (Nat.mul_assoc (n * up d) (down e) (down d)))

-- the sign of a zero does not show in a sum with a float that is not zero
add_beside : (f : Format) (x x' y : Float) → T (is_zero x) → T (is_zero x') → T (not (is_zero y)) → add f x y ≡ add f x' y
add_beside f nan x' y z z' h = absurd z
add_beside f (inf s) x' y z z' h = absurd z
add_beside f (fin s m e) nan y z z' h = absurd z'
add_beside f (fin s m e) (inf s') y z z' h = absurd z'
add_beside f (fin s m e) (fin s' m' e') nan z z' h = unfold add in refl
add_beside f (fin s m e) (fin s' m' e') (inf t) z z' h = unfold add in refl
add_beside f (fin s m e) (fin s' m' e') (fin t n d) z z' h =
    let some = not_none n h in
    zero_add f s m e t n d (eqb→eq m 0 z) some ∙ sym (zero_add f s' m' e' t n d (eqb→eq m' 0 z') some)

neg_is_zero : (x : Float) → is_zero (neg x) ≡ is_zero x
unfolding neg
neg_is_zero nan = refl
neg_is_zero (inf s) = refl
neg_is_zero (fin s m e) = refl

-- nor in a difference, on either side
sub_beside : (x x' y : Float) → T (is_zero x) → T (is_zero x') → T (not (is_zero y)) → (x ⊖ y ≡ x' ⊖ y) × (y ⊖ x ≡ y ⊖ x')
unfolding sub
sub_beside x x' y z z' h = (
  add_beside binary64 x x' (neg y) z z' (rw (neg_is_zero y) h),
  add_comm binary64 y (neg x) ∙ add_beside binary64 (neg x) (neg x') y (rw (neg_is_zero x) z) (rw (neg_is_zero x') z') h ∙ add_comm binary64 (neg x') y,
)

-- a finite float less itself
sub_self : (x : Float) → Finite x → x ⊖ x ≡ round binary64 false 0 1
unfolding sub neg add sum
sub_self nan p = absurd p
sub_self (inf s) p = absurd p
sub_self (fin s m e) p =
    let a = m * up e * down e in
    let c = down e * down e in
    let none : round binary64 false 0 c ≡ round binary64 false 0 1 = round_same binary64 false 0 c 0 1 (Nat.mul-pos (down_pos e) (down_pos e)) (omega arith) (omega arith) in
    go s a c (le-ltb a a (omega arith)) none
  where
    go : (s : Bool) (a c : ℕ) → ltb a a ≡ false → round binary64 false 0 c ≡ round binary64 false 0 1 → sum binary64 s a (not s) a c ≡ round binary64 false 0 1
    go false a c h n = rw (h, Nat.sub_self a) n
    go true a c h n = rw (h, Nat.sub_self a) n

zero_finite : (x : Float) → T (is_zero x) → Finite x
zero_finite nan z = z
zero_finite (inf s) z = z
zero_finite (fin s m e) z = tt

-- `hi` less `lo`, where each may differ in the sign of a zero, but where both are zeros they are one
pub sub_same : {lo lo' hi hi' : Float} → Alike lo lo' → Alike hi hi' → (T (is_zero lo) → T (is_zero hi) → lo ≡ hi) → (T (is_zero lo') → T (is_zero hi') → lo' ≡ hi') → hi ⊖ lo ≡ hi' ⊖ lo'
sub_same (inl p) (inl q) one one' = rw (p, q)
sub_same {lo} {lo'} {hi} {hi'} (inl p) (inr z) one one' =
    by_test (is_zero lo)
    (λ w. ap₂ ◌⊖◌ (sym (one (rw w tt) z.0) ∙ p ∙ one' (rw (← p, w) tt) z.1) p)
    (λ n. rw (← p) (sub_beside hi hi' lo z.0 z.1 (rw n tt)).0)
sub_same {lo} {lo'} {hi} {hi'} (inr z) (inl q) one one' =
    by_test (is_zero hi)
    (λ w. ap₂ ◌⊖◌ q (one z.0 (rw w tt) ∙ q ∙ sym (one' z.1 (rw (← q, w) tt))))
    (λ n. rw (← q) (sub_beside lo lo' hi z.0 z.1 (rw n tt)).1)
sub_same {lo} {lo'} {hi} {hi'} (inr z) (inr w) one one' =
    rw (one z.0 w.0, one' z.1 w.1) (sub_self hi (zero_finite hi w.0) ∙ sym (sub_self hi' (zero_finite hi' w.1)))
