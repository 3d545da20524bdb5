-- A value of the format is m * 2^j quanta with m below 2^53, so from 2^(52 + k) quanta on it is a multiple of 2^k. Hence beside r = q * 2^k, with q of 53 digits,
-- every other value y is q - 1 steps of 2^k or fewer, or q + 1 or more, and the midpoint of y and r lies on y's side of the root of v * 4^k wherever q is nearest to the root of v.
-- Below 2^(52 + k) the steps are finer, but there y is farther from r than 2^52 steps are, unless q is 2^52 itself, whose square is at most v.
use Rattle.std.specs.Prelude.{◌≡◌, Bool, true, false, not, ◌&&◌, ℕ, zero, suc, ◌+◌, ◌-◌, ◌*◌, ◌/◌, ◌%◌, ◌^◌, ◌≤◌, ◌<◌, T, leb, ltb, eqb, pos, negsuc, Float}
use Rattle.std.proofs.Common.{sym, ap, ◌∙◌, subst, le_trans, le_of_eq, le_of_lt, lt_of_lt_of_le, lt_of_le_of_lt, lt_irrefl, mul-le-mul_left, mul-le-mul_right, add-mul, mul-lt-mul_of_pos_right, lt_of_mul-lt-mul_right, mul_assoc, mul-one, mul-pos, mul-div_cancel, zero-mul, sub-add_cancel, div-one, arith, leb→le, ltb→lt, lit<, pow-add, pow_pos, pow_mono}
use Rattle.std.proofs.Math.Nat.{zero-div, mul-mul-mul_comm}
use Rattle.std.proofs.Math.Dec.{nleb→lt}
use Rattle.std.proofs.Math.Pow.{pow-lt}
use Rattle.std.specs.Float.{nan, inf, fin, binary64}
use Rattle.std.specs.Float.Ieee.{up, down, odd, fits}
use Rattle.std.specs.Float.Ieee.Digits.{Equals, odd_val}
use Rattle.std.specs.Float.Ieee.Fits.{and_l, and_r, down_pos}
use Rattle.std.specs.Float.Ieee.Scale.{finite}
use Rattle.float.specs.Quanta.{quanta}
use Rattle.sqrt.proofs.RootTheorem.Squares.{Nearest}

-- ---- quanta
pub quanta_odd : (d : ℕ) (s : Bool) (q k : ℕ) → quanta (odd d s q k 1074) ≡ q * 2 ^ k
unfolding quanta
quanta_odd d s q k = go (odd d s q k 1074) (odd_val d s q k 1074)
  where
    go : (x : Float) → Equals x (q * 2 ^ k) (2 ^ 1074) → quanta x ≡ q * 2 ^ k
    go nan h = absurd h
    go (inf s) h = absurd h
    go (fin s m e) h = ap (λ (n : ℕ). n / down e) h ∙ mul-div_cancel (q * 2 ^ k) (down_pos e)

-- n has at most 53 binary digits before its final zeros
abbrev pub OnGrid : ℕ → Type 0
OnGrid n = (m : ℕ) × (j : ℕ) × (m < 2 ^ 53) × (n ≡ m * 2 ^ j)

-- 2^-i is a whole number of quanta, for i up to 1074
small_enough : (i : ℕ) → 2 ^ i ≤ 2 ^ 1074 → i ≤ 1074
small_enough i h = go (leb i 1074) (leb→le i 1074) (nleb→lt i 1074)
  where
    go : (t : Bool) → (T t → i ≤ 1074) → (T (not t) → 1074 < i) → i ≤ 1074
    go true f g = f tt
    go false f g = absurd (lt_irrefl (2 ^ 1074) (lt_of_lt_of_le (pow-lt (g tt)) h))

pub quanta_grid : (x : Float) → T (fits binary64 x) → T (finite x) → OnGrid (quanta x)
unfolding fits quanta
quanta_grid nan h f = absurd f
quanta_grid (inf s) h f = absurd f
quanta_grid (fin s zero e) h f = (0, 0, lit< tt, ap (λ (n : ℕ). n * 2 ^ 1074 / down e) (zero-mul (up e)) ∙ ap (λ (n : ℕ). n / down e) (zero-mul (2 ^ 1074)) ∙ zero-div (down e))
quanta_grid (fin s (suc m) (pos k)) h f =
    let a = eqb (suc m % 2) 1 in
    let b = ltb (suc m) (2 ^ 53) in
    let c = leb 1 (2 ^ 1074) in
    let d = ltb (suc m * 2 ^ k) (2 ^ 1024 * 1) in
    (suc m, k + 1074, ltb→lt (suc m) (2 ^ 53) (and_r a b (and_l (a && b) c (and_l (a && b && c) d h))), div-one (suc m * 2 ^ k * 2 ^ 1074) ∙ mul_assoc (suc m) (2 ^ k) (2 ^ 1074) ∙ ap (λ (n : ℕ). suc m * n) (sym (pow-add 2 k 1074)))
quanta_grid (fin s (suc m) (negsuc k)) h f =
    let a = eqb (suc m % 2) 1 in
    let b = ltb (suc m) (2 ^ 53) in
    let c = leb (2 ^ suc k) (2 ^ 1074) in
    let d = ltb (suc m * 1) (2 ^ 1024 * 2 ^ suc k) in
    let l : suc k ≤ 1074 = small_enough (suc k) (leb→le (2 ^ suc k) (2 ^ 1074) (and_r (a && b) c (and_l (a && b && c) d h))) in (
      suc m,
      1074 - suc k,
      ltb→lt (suc m) (2 ^ 53) (and_r a b (and_l (a && b) c (and_l (a && b && c) d h))),
      ap (λ (n : ℕ). n * 2 ^ 1074 / 2 ^ suc k) (mul-one (suc m))
          ∙ ap (λ (n : ℕ). suc m * 2 ^ n / 2 ^ suc k) (sym (sub-add_cancel l))
          ∙ ap (λ (n : ℕ). suc m * n / 2 ^ suc k) (pow-add 2 (1074 - suc k) (suc k))
          ∙ ap (λ (n : ℕ). n / 2 ^ suc k) (sym (mul_assoc (suc m) (2 ^ (1074 - suc k)) (2 ^ suc k)))
          ∙ mul-div_cancel (suc m * 2 ^ (1074 - suc k)) (pow_pos (suc k)),
    )

-- ---- multiples of 2^k
pub steps : (n k : ℕ) → OnGrid n → 2 ^ (52 + k) ≤ n → (p : ℕ) × (n ≡ p * 2 ^ k)
steps n k (m, j, small, is) h = go (leb k j) (leb→le k j) (nleb→lt k j)
  where
    go : (t : Bool) → (T t → k ≤ j) → (T (not t) → j < k) → (p : ℕ) × (n ≡ p * 2 ^ k)
    go true f g =
        (m * 2 ^ (j - k), is ∙ ap (λ (i : ℕ). m * 2 ^ i) (sym (sub-add_cancel (f tt))) ∙ ap (λ (x : ℕ). m * x) (pow-add 2 (j - k) k) ∙ sym (mul_assoc m (2 ^ (j - k)) (2 ^ k)))
    go false f g =
        let l = g tt in
        let i : 53 + j ≤ 52 + k = omega arith in
        absurd (lt_irrefl n (lt_of_lt_of_le (subst (λ (x : ℕ). x < 2 ^ (53 + j)) (sym is) (lt_of_lt_of_le (mul-lt-mul_of_pos_right small (pow_pos j)) (le_of_eq (sym (pow-add 2 53 j))))) (le_trans (pow_mono i) h)))

-- ---- midpoints, with P for 2^k
square_up : (s v P : ℕ) → s * s < 4 * v → 0 < P → s * P * (s * P) < 4 * (v * (P * P))
square_up s v P h p =
    lt_of_le_of_lt (le_of_eq (mul-mul-mul_comm s P s P)) (lt_of_lt_of_le (mul-lt-mul_of_pos_right h (mul-pos p p)) (le_of_eq (mul_assoc 4 v (P * P))))

square_down : (s v P : ℕ) → 4 * v < s * s → 0 < P → 4 * (v * (P * P)) < s * P * (s * P)
square_down s v P h p =
    lt_of_le_of_lt (le_of_eq (sym (mul_assoc 4 v (P * P)))) (lt_of_lt_of_le (mul-lt-mul_of_pos_right h (mul-pos p p)) (le_of_eq (sym (mul-mul-mul_comm s P s P))))

-- y is p steps and r is q
close_below : (v p q : ℕ) → p < q → Nearest v q → (p + q) * (p + q) < 4 * v
close_below v p q h n = go (q - (p + 1)) (omega arith)
  where
    go : (j : ℕ) → q ≡ p + 1 + j → (p + q) * (p + q) < 4 * v
    go j e =
        let l : (p + 1 + j) * (p + 1 + j) < v + (p + 1 + j) = subst (λ (x : ℕ). x * x < v + x) e n.0 in
        subst (λ (x : ℕ). (p + x) * (p + x) < 4 * v) (sym e) (omega arith)

close_above : (v p q : ℕ) → q < p → Nearest v q → 4 * v < (p + q) * (p + q)
close_above v p q h n = go (p - (q + 1)) (omega arith)
  where
    go : (j : ℕ) → p ≡ q + 1 + j → 4 * v < (p + q) * (p + q)
    go j e = let l = n.1 in subst (λ (x : ℕ). 4 * v < (x + q) * (x + q)) (sym e) (omega arith)

-- y is below b = 2^52 steps, and r at more than b
farther : (v b i : ℕ) → (b + suc i) * (b + suc i) < v + (b + suc i) → (b + (b + suc i)) * (b + (b + suc i)) ≤ 4 * v
farther v b i l = omega arith

far_below : (v q : ℕ) → 2 ^ 104 ≤ v → 2 ^ 52 ≤ q → Nearest v q → (2 ^ 52 + q) * (2 ^ 52 + q) ≤ 4 * v
far_below v q low h n = go (q - 2 ^ 52) (omega arith)
  where
    go : (j : ℕ) → q ≡ 2 ^ 52 + j → (2 ^ 52 + q) * (2 ^ 52 + q) ≤ 4 * v
    go zero e = subst (λ (x : ℕ). (2 ^ 52 + x) * (2 ^ 52 + x) ≤ 4 * v) (sym e) (omega arith)
    go (suc i) e = subst (λ (x : ℕ). (2 ^ 52 + x) * (2 ^ 52 + x) ≤ 4 * v) (sym e) (farther v (2 ^ 52) i (subst (λ (x : ℕ). x * x < v + x) e n.0))

square_lt : (a b : ℕ) → a < b → a * a < b * b
square_lt a b h = lt_of_le_of_lt (mul-le-mul_left a (le_of_lt h)) (mul-lt-mul_of_pos_right h (omega arith))

pub mid_below : (v q k n : ℕ) → 2 ^ 104 ≤ v → 2 ^ 52 ≤ q → Nearest v q → OnGrid n → n < q * 2 ^ k → (n + q * 2 ^ k) * (n + q * 2 ^ k) < 4 * (v * (2 ^ k * 2 ^ k))
mid_below v q k n low h near grid l = go (leb (2 ^ (52 + k)) n) (leb→le (2 ^ (52 + k)) n) (nleb→lt (2 ^ (52 + k)) n)
  where
    go : (t : Bool) → (T t → 2 ^ (52 + k) ≤ n) → (T (not t) → n < 2 ^ (52 + k)) → (n + q * 2 ^ k) * (n + q * 2 ^ k) < 4 * (v * (2 ^ k * 2 ^ k))
    go true f g =
        let s = steps n k grid (f tt) in
        let p = s.0 in
        let less : p < q = lt_of_mul-lt-mul_right (2 ^ k) (subst (λ (x : ℕ). x < q * 2 ^ k) s.1 l) in
        subst (λ (x : ℕ). x * x < 4 * (v * (2 ^ k * 2 ^ k))) (add-mul p q (2 ^ k) ∙ ap (λ (x : ℕ). x + q * 2 ^ k) (sym s.1))
        (square_up (p + q) v (2 ^ k) (close_below v p q less near) (pow_pos k))
    go false f g =
        let far : n < 2 ^ 52 * 2 ^ k = subst (λ (x : ℕ). n < x) (pow-add 2 52 k) (g tt) in
        let sum : n + q * 2 ^ k < (2 ^ 52 + q) * 2 ^ k = subst (λ (x : ℕ). n + q * 2 ^ k < x) (sym (add-mul (2 ^ 52) q (2 ^ k))) (omega arith) in
        lt_of_lt_of_le (square_lt (n + q * 2 ^ k) ((2 ^ 52 + q) * 2 ^ k) sum)
        (le_trans (le_of_eq (mul-mul-mul_comm (2 ^ 52 + q) (2 ^ k) (2 ^ 52 + q) (2 ^ k)))
        (le_trans (mul-le-mul_right (2 ^ k * 2 ^ k) (far_below v q low h near)) (le_of_eq (mul_assoc 4 v (2 ^ k * 2 ^ k)))))

pub mid_above : (v q k n : ℕ) → 2 ^ 52 ≤ q → Nearest v q → OnGrid n → q * 2 ^ k < n → 4 * (v * (2 ^ k * 2 ^ k)) < (n + q * 2 ^ k) * (n + q * 2 ^ k)
mid_above v q k n h near grid l =
    let s = steps n k grid (le_trans (le_of_eq (pow-add 2 52 k)) (le_trans (mul-le-mul_right (2 ^ k) h) (le_of_lt l))) in
    let p = s.0 in
    let more : q < p = lt_of_mul-lt-mul_right (2 ^ k) (subst (λ (x : ℕ). q * 2 ^ k < x) s.1 l) in
    subst (λ (x : ℕ). 4 * (v * (2 ^ k * 2 ^ k)) < x * x) (add-mul p q (2 ^ k) ∙ ap (λ (x : ℕ). x + q * 2 ^ k) (sym s.1))
    (square_down (p + q) v (2 ^ k) (close_above v p q more near) (pow_pos k))
