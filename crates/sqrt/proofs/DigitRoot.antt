-- The digit loop of the square root. After i digits the root so far is that of the first 2 i binary digits of w * 2^54, rounded down, with `over` left over:
-- what these digits make is w * 4^i without `rest`, the digits still to come. Each turn takes two more digits of w and finds one more of the root.
use mathlib.Core.Path.{◌≡◌, sym, ap, ◌∙◌, subst}
use Prim.Native.Nat.{ℕ, ◌+◌, ◌-◌, ◌*◌, ◌/◌, ◌%◌, ◌^◌, ◌≤◌, ◌<◌}
use native.Mathlib.Nat.{pow-suc, lt_of_lt_of_le}
use native.Mathlib.Numerals.{add-one}
use native.Mathlib.Omega.{arith}
use lib.Pow.{pow_mono}
use Rattle.sqrt.specs.Root.{isqrt, nearest_root}
use Rattle.sqrt.proofs.RootTheorem.Squares.{Floor, floor_unique, isqrt_floor}

pub record Digits (w i rest root over : ℕ) : Type 0 where
  pub value : (root * root + over) * 2 ^ 54 + rest ≡ w * 4 ^ i
  pub floor : over ≤ 2 * root
  pub few : rest < 2 ^ 54
  pub small : root < 2 ^ i

next_pow : (n i : ℕ) → n ^ (i + 1) ≡ n ^ i * n
next_pow n i = ap (λ (k : ℕ). n ^ k) (add-one i) ∙ pow-suc n i

pub zero_digit : (w i rest root over : ℕ) → Digits w i rest root over → over * 4 + rest / 2 ^ 52 ≤ root * 2 * 2
    → Digits w (i + 1) (rest % 2 ^ 52 * 4) (root * 2) (over * 4 + rest / 2 ^ 52)
zero_digit w i rest root over d h =
    let v = d.value in
    let s = d.small in
    let f = next_pow 4 i in
    let g = next_pow 2 i in
    record {
      value = subst (λ (x : ℕ). (root * 2 * (root * 2) + (over * 4 + rest / 2 ^ 52)) * 2 ^ 54 + rest % 2 ^ 52 * 4 ≡ w * x) (sym f) (omega arith);
      floor = omega arith;
      few = omega arith;
      small = omega arith;
    }

pub one_digit : (w i rest root over : ℕ) → Digits w i rest root over → root * 2 * 2 < over * 4 + rest / 2 ^ 52
    → Digits w (i + 1) (rest % 2 ^ 52 * 4) (root * 2 + 1) (over * 4 + rest / 2 ^ 52 - (root * 2 * 2 + 1))
one_digit w i rest root over d h = go (over * 4 + rest / 2 ^ 52 - (root * 2 * 2 + 1)) (omega arith)
  where
    go : (o : ℕ) → over * 4 + rest / 2 ^ 52 ≡ root * 2 * 2 + 1 + o → Digits w (i + 1) (rest % 2 ^ 52 * 4) (root * 2 + 1) o
    go o e =
        let v = d.value in
        let s = d.small in
        let l = d.floor in
        let f = next_pow 4 i in
        let g = next_pow 2 i in
        record {
          value = subst (λ (x : ℕ). ((root * 2 + 1) * (root * 2 + 1) + o) * 2 ^ 54 + rest % 2 ^ 52 * 4 ≡ w * x) (sym f) (omega arith);
          floor = omega arith;
          few = omega arith;
          small = omega arith;
        }

-- all 54 digits
last_floor : (w rest root over : ℕ) → Digits w 54 rest root over → Floor (4 * (w * 2 ^ 52)) root
last_floor w rest root over d =
    let e : root * root + over ≡ w * 2 ^ 54 = whole (root * root + over) (w * 2 ^ 54) rest d.few (d.value ∙ omega arith) in
    let l = d.floor in
    (omega arith, omega arith)
  where
    whole : (x y r : ℕ) → r < 2 ^ 54 → x * 2 ^ 54 + r ≡ y * 2 ^ 54 → x ≡ y
    whole x y r h e = omega arith

pub last_root : (w rest root over : ℕ) → w < 2 ^ 54 → Digits w 54 rest root over → (root + 1) / 2 ≡ nearest_root (w * 2 ^ 52)
unfolding nearest_root
last_root w rest root over h d =
    ap (λ (x : ℕ). (x + 1) / 2) (floor_unique (4 * (w * 2 ^ 52)) root (isqrt 54 (4 * (w * 2 ^ 52))) (last_floor w rest root over d) (isqrt_floor 54 (4 * (w * 2 ^ 52)) (omega arith)))

-- a turn begins with fewer than 54 digits
pub root_bound : (w i rest root over : ℕ) → i ≤ 53 → Digits w i rest root over → root < 2 ^ 53
root_bound w i rest root over h d = lt_of_lt_of_le d.small (pow_mono h)
