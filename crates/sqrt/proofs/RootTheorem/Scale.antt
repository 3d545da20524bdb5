-- Where n quanta are m * 2^g / 2^1074 with an m of 53 binary digits, the root of n quanta is that of m * 2^52, or of m * 2^53 where g is odd,
-- to the nearest whole number, and (g - 52) / 2 zeros after it: n * 2^1074 has 53 + g digits, and the even number of zeros that `root_of` cuts off leaves 52 or 53.
use Rattle.std.specs.Prelude.{◌≡◌, refl, false, ℕ, zero, suc, ◌+◌, ◌-◌, ◌*◌, ◌/◌, ◌%◌, ◌^◌, ◌≤◌, ◌<◌}
use Rattle.std.proofs.Common.{sym, ap, ◌∙◌, le_antisymm, le_trans, le_of_eq, lt_of_lt_of_le, not-le_of_lt, lt_of_not-le, mul-le-mul_right, mul-lt-mul_of_pos_right, mul_assoc, mul-div_cancel, mod-lt, pow-suc, arith, lit<, pow-add, pow_pos, pow_mono}
use Rattle.std.specs.Float.Ieee.{size, odd}
use Rattle.std.specs.Float.Ieee.Digits.{size-lt, size-le}
use Rattle.sqrt.specs.Root.{root_of, nearest_root}

-- a number from 2^j up to below 2^(j + 1) has j + 1 digits
size_is : (n j : ℕ) → 2 ^ j ≤ n → n < 2 ^ suc j → size n ≡ suc j
size_is n j a b = le_antisymm (size-le n (suc j) b) (lt_of_not-le (λ (h : size n ≤ j). not-le_of_lt (lt_of_lt_of_le (size-lt n) (pow_mono h)) a))

pub four_pow : (k : ℕ) → 4 ^ k ≡ 2 ^ (k + k)
four_pow zero = refl
four_pow (suc k) =
    pow-suc 4 k ∙ ap (λ (x : ℕ). x * 4) (four_pow k) ∙ sym (pow-add 2 (k + k) 2) ∙ ap (λ (x : ℕ). 2 ^ x) (omega arith)

shifted_size : (m g : ℕ) → 2 ^ 52 ≤ m → m < 2 ^ 53 → size (m * 2 ^ g) ≡ suc (52 + g)
shifted_size m g a b =
    let s : 53 + g ≡ suc (52 + g) = omega arith in
    size_is (m * 2 ^ g) (52 + g)
    (le_trans (le_of_eq (pow-add 2 52 g)) (mul-le-mul_right (2 ^ g) a))
    (lt_of_lt_of_le (mul-lt-mul_of_pos_right b (pow_pos g)) (le_of_eq (sym (pow-add 2 53 g) ∙ ap (λ (x : ℕ). 2 ^ x) s)))

-- the zeros cut off, and the number left, as `root_of` has them
cut : (m g : ℕ) → 52 ≤ g → m * 2 ^ g / 4 ^ ((g - 52) / 2) ≡ m * 2 ^ (52 + g % 2)
cut m g h =
    let k = (g - 52) / 2 in
    let e : g ≡ 52 + g % 2 + (k + k) = omega arith in
    ap (λ (x : ℕ). m * 2 ^ g / x) (four_pow k)
    ∙ ap (λ (x : ℕ). m * 2 ^ x / 2 ^ (k + k)) e
    ∙ ap (λ (x : ℕ). m * x / 2 ^ (k + k)) (pow-add 2 (52 + g % 2) (k + k))
    ∙ ap (λ (x : ℕ). x / 2 ^ (k + k)) (sym (mul_assoc m (2 ^ (52 + g % 2)) (2 ^ (k + k))))
    ∙ mul-div_cancel (m * 2 ^ (52 + g % 2)) (pow_pos (k + k))

pub root_of_is : (n m g : ℕ) → 2 ^ 52 ≤ m → m < 2 ^ 53 → 52 ≤ g → n * 2 ^ 1074 ≡ m * 2 ^ g → root_of n ≡ odd 53 false (nearest_root (m * 2 ^ (52 + g % 2))) ((g - 52) / 2) 1074
unfolding root_of
root_of_is n m g a b h e =
    let k : (size (m * 2 ^ g) - 105) / 2 ≡ (g - 52) / 2 = ap (λ (x : ℕ). (x - 105) / 2) (shifted_size m g a b) ∙ omega arith in
    ap (λ (v : ℕ). odd 53 false (nearest_root (v / 4 ^ ((size v - 105) / 2))) ((size v - 105) / 2) 1074) e
    ∙ ap (λ (j : ℕ). odd 53 false (nearest_root (m * 2 ^ g / 4 ^ j)) j 1074) k
    ∙ ap (λ (v : ℕ). odd 53 false (nearest_root v) ((g - 52) / 2) 1074) (cut m g h)

-- what holds for an even and for an odd exponent
pub by_parity : (P : ℕ → Type 0) → P 0 → P 1 → (o : ℕ) → P (o % 2)
by_parity P even odd o = go (o % 2) (mod-lt o (lit< tt))
  where
    go : (r : ℕ) → r < 2 → P r
    go zero h = even
    go (suc zero) h = odd
    go (suc (suc r)) h = absurd (omega arith)

-- the number whose root is taken has 105 or 106 digits, and its root 53
pub scaled_range : (m o : ℕ) → 2 ^ 52 ≤ m → m < 2 ^ 53 → (2 ^ 104 ≤ m * 2 ^ (52 + o % 2)) × (m * 2 ^ (52 + o % 2) ≤ 2 ^ 106 - 2 ^ 53)
scaled_range m o a b = by_parity (λ r. (2 ^ 104 ≤ m * 2 ^ (52 + r)) × (m * 2 ^ (52 + r) ≤ 2 ^ 106 - 2 ^ 53)) (omega arith) (omega arith) o

-- a number of j + 1 digits, moved up to have 53
pub moved_up : (m j : ℕ) → 2 ^ j ≤ m → m < 2 ^ suc j → j ≤ 52 → (2 ^ 52 ≤ m * 2 ^ (52 - j)) × (m * 2 ^ (52 - j) < 2 ^ 53)
moved_up m j a b h =
    let low : 52 ≡ j + (52 - j) = omega arith in
    let high : 53 ≡ suc j + (52 - j) = omega arith in (
      le_trans (le_of_eq (ap (λ (x : ℕ). 2 ^ x) low ∙ pow-add 2 j (52 - j))) (mul-le-mul_right (2 ^ (52 - j)) a),
      lt_of_lt_of_le (mul-lt-mul_of_pos_right b (pow_pos (52 - j))) (le_of_eq (sym (ap (λ (x : ℕ). 2 ^ x) high ∙ pow-add 2 (suc j) (52 - j)))),
    )

-- 2 ^ a below 2 ^ b
pub pow_cancel : (a b : ℕ) → 2 ^ a < 2 ^ b → a < b
pow_cancel a b h = lt_of_not-le (λ (k : b ≤ a). not-le_of_lt h (pow_mono k))
