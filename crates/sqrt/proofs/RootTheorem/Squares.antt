-- `nearest_root v` is the whole number nearest to the root of v: q with (q - 1/2)^2 < v < (q + 1/2)^2, which among whole numbers is q^2 - q < v ≤ q^2 + q.
-- By induction on the digits `isqrt` is the root rounded down, and half the root of 4 v is then the root of v to the nearest. One q at most has the property.
use Rattle.std.specs.Prelude.{◌≡◌, Bool, true, false, not, cond, ℕ, zero, suc, ◌+◌, ◌-◌, ◌*◌, ◌/◌, ◌%◌, ◌^◌, ◌≤◌, ◌<◌, T, leb}
use Rattle.std.proofs.Common.{sym, subst, le_antisymm, mul-le-mul_right, pow-suc, div-lt_iff_lt-mul, arith, leb→le, lit<}
use Rattle.std.proofs.Math.Dec.{nleb→lt}
use Rattle.sqrt.specs.Root.{digit, isqrt, nearest_root}

-- q is the whole number nearest to the root of v
abbrev pub Nearest : ℕ → ℕ → Type 0
Nearest v q = (q * q < v + q) × (v ≤ q * q + q)

-- r is the root of n rounded down
abbrev pub Floor : ℕ → ℕ → Type 0
Floor n r = (r * r ≤ n) × (n < (r + 1) * (r + 1))

-- a second candidate above the first would need a v above what the first allows
not_above : (v p j : ℕ) → v ≤ p * p + p → (p + 1 + j) * (p + 1 + j) < v + (p + 1 + j) → ⊥
not_above v p j h k = omega arith

no_two : (v p q : ℕ) → Nearest v p → Nearest v q → p < q → ⊥
no_two v p q a b l =
    let j = q - (p + 1) in
    let e : q ≡ p + 1 + j = omega arith in
    not_above v p j a.1 (subst (λ (x : ℕ). x * x < v + x) e b.0)

pub nearest_unique : (v p q : ℕ) → Nearest v p → Nearest v q → p ≡ q
nearest_unique v p q a b =
    le_antisymm (below p q b a) (below q p a b)
  where
    below : (p q : ℕ) → Nearest v q → Nearest v p → p ≤ q
    below p q a b = go (leb p q) (leb→le p q) (nleb→lt p q)
      where
        go : (t : Bool) → (T t → p ≤ q) → (T (not t) → q < p) → p ≤ q
        go true f g = f tt
        go false f g = absurd (no_two v q p a b (g tt))

-- 0 has no such q
nearest_pos : (v q : ℕ) → Nearest v q → 0 < v
nearest_pos v zero n = omega arith
nearest_pos v (suc q) n = omega arith

-- ---- the root rounded down, digit by digit
one_digit : (n r : ℕ) → Floor (n / 4) r → Floor n (digit n r)
unfolding digit
one_digit n r h = go (leb ((2 * r + 1) * (2 * r + 1)) n) (leb→le ((2 * r + 1) * (2 * r + 1)) n) (nleb→lt ((2 * r + 1) * (2 * r + 1)) n)
  where
    go : (t : Bool) → (T t → (2 * r + 1) * (2 * r + 1) ≤ n) → (T (not t) → n < (2 * r + 1) * (2 * r + 1)) → Floor n (cond t (2 * r + 1) (2 * r))
    go true f g = let l = f tt in (l, omega arith)
    go false f g = let l = g tt in (omega arith, l)

pub isqrt_floor : (d n : ℕ) → n < 4 ^ d → Floor n (isqrt d n)
unfolding isqrt
isqrt_floor zero n h = let z : n < 1 = h in (omega arith, omega arith)
isqrt_floor (suc d) n h = one_digit n (isqrt d (n / 4)) (isqrt_floor d (n / 4) ((div-lt_iff_lt-mul (lit< tt)).1 (subst (λ (x : ℕ). n < x) (pow-suc 4 d) h)))

floor_le : (n r s : ℕ) → Floor n r → Floor n s → r ≤ s
floor_le n r s a b = go (leb r s) (leb→le r s) (nleb→lt r s)
  where
    above : (j : ℕ) → (s + 1 + j) * (s + 1 + j) ≤ n → n < (s + 1) * (s + 1) → ⊥
    above j h k = omega arith

    go : (t : Bool) → (T t → r ≤ s) → (T (not t) → s < r) → r ≤ s
    go true f g = f tt
    go false f g =
        let l = g tt in
        let e : r ≡ s + 1 + (r - (s + 1)) = omega arith in
        absurd (above (r - (s + 1)) (subst (λ (x : ℕ). x * x ≤ n) e a.0) b.1)

pub floor_unique : (n r s : ℕ) → Floor n r → Floor n s → r ≡ s
floor_unique n r s a b = le_antisymm (floor_le n r s a b) (floor_le n s r b a)

-- ---- half the root of 4 v
even_half : (v q : ℕ) → 0 < v → Floor (4 * v) (2 * q) → Nearest v q
even_half v zero v>0 h = (omega arith, omega arith)
even_half v (suc q) v>0 h = (omega arith, omega arith)

odd_half : (v q : ℕ) → Floor (4 * v) (2 * q + 1) → Nearest v (q + 1)
odd_half v q h = (omega arith, omega arith)

pub half_nearest : (v r : ℕ) → 0 < v → Floor (4 * v) r → Nearest v ((r + 1) / 2)
half_nearest v r v>0 h = go (leb (r % 2) 0) (leb→le (r % 2) 0) (nleb→lt (r % 2) 0)
  where
    go : (t : Bool) → (T t → r % 2 ≤ 0) → (T (not t) → 0 < r % 2) → Nearest v ((r + 1) / 2)
    go true f g =
        let l = f tt in
        let e : r ≡ 2 * (r / 2) = omega arith in
        let q : (r + 1) / 2 ≡ r / 2 = omega arith in
        subst (Nearest v) (sym q) (even_half v (r / 2) v>0 (subst (Floor (4 * v)) e h))
    go false f g =
        let l = g tt in
        let e : r ≡ 2 * (r / 2) + 1 = omega arith in
        let q : (r + 1) / 2 ≡ r / 2 + 1 = omega arith in
        subst (Nearest v) (sym q) (odd_half v (r / 2) (subst (Floor (4 * v)) e h))

pub nearest_root_nearest : (v : ℕ) → 0 < v → v < 4 ^ 53 → Nearest v (nearest_root v)
unfolding nearest_root
nearest_root_nearest v v>0 h = half_nearest v (isqrt 54 (4 * v)) v>0 (isqrt_floor 54 (4 * v) (omega arith))

pub nearest_is : (v q : ℕ) → v < 4 ^ 53 → Nearest v q → q ≡ nearest_root v
nearest_is v q h n = nearest_unique v q (nearest_root v) n (nearest_root_nearest v (nearest_pos v q n) h)

-- ---- 53 binary digits
pub nearest_low : (v q : ℕ) → 2 ^ 104 ≤ v → Nearest v q → 2 ^ 52 ≤ q
nearest_low v q h n = go (leb (2 ^ 52) q) (leb→le (2 ^ 52) q) (nleb→lt (2 ^ 52) q)
  where
    go : (t : Bool) → (T t → 2 ^ 52 ≤ q) → (T (not t) → q < 2 ^ 52) → 2 ^ 52 ≤ q
    go true f g = f tt
    go false f g = let l = g tt in let m = mul-le-mul_right {m = q} {n = 2 ^ 52 - 1} q (omega arith) in omega arith

pub nearest_high : (v q : ℕ) → v ≤ 2 ^ 106 - 2 ^ 53 → Nearest v q → q < 2 ^ 53
nearest_high v q h n = go (leb (2 ^ 53) q) (leb→le (2 ^ 53) q) (nleb→lt (2 ^ 53) q)
  where
    go : (t : Bool) → (T t → 2 ^ 53 ≤ q) → (T (not t) → q < 2 ^ 53) → q < 2 ^ 53
    go true f g = let l = f tt in let m = mul-le-mul_right {m = 2 ^ 53} {n = q} q l in absurd (omega arith)
    go false f g = g tt
