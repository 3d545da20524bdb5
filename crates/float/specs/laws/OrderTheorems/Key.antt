-- The key of a bit pattern b. By the two cases of its definition it is the key of the sign and the rest of b, no two patterns have one key, and none of a number has the largest u64.
use Rattle.std.specs.Prelude.{◌≡◌, refl, ◌⊎◌, ℕ, ◌+◌, ◌-◌, ◌*◌, ◌%◌, ◌^◌, ◌≤◌, ◌<◌, Bool, true, false, not, cond, T, leb, Float}
use Rattle.std.proofs.Common.{inl, inr, arith, le-leb, leb→le, nltb→le}
use Rattle.std.proofs.lemmas.Bool.{lt-leb}
use Rattle.std.proofs.Math.Dec.{nleb→lt}
use Rattle.std.specs.Float.{binary64}
use Rattle.std.specs.Float.Ieee.{fits, is_nan, to_bits}
use Rattle.std.specs.Float.Ieee.Bits.{of_bits-to_bits, nan_bits_is, nan_bits_above}
use Rattle.float.specs.TotalOrder.{key_of}
use Rattle.float.specs.laws.OrderTheorems.Signed.{keyed}
use Rattle.float.specs.laws.OrderTheorems.Pattern.{rest}

-- the two cases, with the sign's bit and without it
abbrev Cases : ℕ → ℕ → Type 0
Cases b k = ((2 ^ 63 ≤ b) × (k ≡ 2 ^ 64 - 1 - b)) ⊎ ((b < 2 ^ 63) × (k ≡ 2 ^ 63 + b))

cases : (b : ℕ) → Cases b (key_of b)
unfolding key_of
cases b = go (leb (2 ^ 63) b) (leb→le (2 ^ 63) b) (nleb→lt (2 ^ 63) b)
  where
    go : (s : Bool) → (T s → 2 ^ 63 ≤ b) → (T (not s) → b < 2 ^ 63) → Cases b (cond s (2 ^ 64 - 1 - b) (2 ^ 63 + b))
    go true h _ = inl (h tt, refl)
    go false _ h = inr (h tt, refl)

pub key_of_signed : (b : ℕ) → b < 2 ^ 64 → key_of b ≡ keyed (2 ^ 63) (leb (2 ^ 63) b) (b % 2 ^ 63)
key_of_signed b l = elim (cases b) [
  | inl h ↦ rw (le-leb (2 ^ 63) b h.0) (omega arith)
  | inr h ↦ rw (lt-leb (2 ^ 63) b h.0) (omega arith)
]

pub key_of_injective : (b c : ℕ) → b < 2 ^ 64 → c < 2 ^ 64 → key_of b ≡ key_of c → b ≡ c
key_of_injective b c l m e = go (cases b) (cases c)
  where
    go : Cases b (key_of b) → Cases c (key_of c) → b ≡ c
    go (inl h) (inl k) = omega arith
    go (inl h) (inr k) = omega arith
    go (inr h) (inl k) = omega arith
    go (inr h) (inr k) = omega arith

pub key_of_lt : (b : ℕ) → b < 2 ^ 64 → b % 2 ^ 63 ≤ 2047 * 2 ^ 52 → key_of b < 2 ^ 64 - 1
key_of_lt b l m = elim (cases b) [ inl h ↦ omega arith | inr h ↦ omega arith ]

-- no pattern of a number is above an infinity's
pub pattern_le : (x : Float) → T (fits binary64 x) → T (not (is_nan x)) → rest x ≤ 2047 * 2 ^ 52
pattern_le x h n =
    let b = to_bits binary64 x in
    nltb→le (2047 * 2 ^ 52) (rest x) (rw (← (nan_bits_above binary64 b), nan_bits_is binary64 b, of_bits-to_bits binary64 x h) n)
