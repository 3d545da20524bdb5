-- The check of a guess p: with u = w * 2^52 - p * p + p, the number nearest to the root of w * 2^52 is p + i where u lies above 2 i p + i * i - i and not above the same at i + 1.
use mathlib.Core.Path.{◌≡◌, sym, ◌∙◌, subst}
use Prim.Native.Nat.{ℕ, ◌+◌, ◌-◌, ◌*◌, ◌/◌, ◌%◌, ◌^◌, ◌≤◌, ◌<◌}
use native.Mathlib.Nat.{add-zero, div-add-mod'}
use native.Mathlib.Omega.{arith}
use Rattle.sqrt.specs.Root.{nearest_root}
use Rattle.sqrt.proofs.RootTheorem.Squares.{Nearest, nearest_is}

-- u from its front: with p = a * 2^26 + b, the code takes a * a from w, 2 * a * b from what is left, and b * b from that
pub difference : (p w t d u : ℕ) → let a = p / 67108864 in let b = p % 67108864 in (a * a ≤ w) × (t ≡ w - a * a)
    → (2 * a * b ≤ t * 67108864) × (d ≡ t * 67108864 - 2 * a * b)
    → (b * b ≤ d * 67108864 + p) × (u ≡ d * 67108864 + p - b * b)
    → u + p * p ≡ w * 2 ^ 52 + p
difference p w t d u f g h =
    from_parts (p / 67108864) (p % 67108864) (sym (div-add-mod' p 67108864)) (omega arith) (omega arith) (omega arith)
  where
    from_parts : (a b : ℕ) → p ≡ a * 67108864 + b → w ≡ a * a + t → t * 67108864 ≡ 2 * a * b + d → d * 67108864 + p ≡ b * b + u → u + p * p ≡ w * 2 ^ 52 + p
    from_parts a b e₁ e₂ e₃ e₄ = subst (λ (x : ℕ). u + x * x ≡ w * 2 ^ 52 + p) (sym e₁) (omega arith)

candidate : (i p w u : ℕ) → w < 2 ^ 54 → u + p * p ≡ w * 2 ^ 52 + p → 2 * i * p + i * i < u + i → u ≤ 2 * i * p + 2 * p + i * i + i → p + i ≡ nearest_root (w * 2 ^ 52)
candidate i p w u h e low high = nearest_is (w * 2 ^ 52) (p + i) (omega arith) (near i p (w * 2 ^ 52) u e low high)
  where
    near : (i p v u : ℕ) → u + p * p ≡ v + p → 2 * i * p + i * i < u + i → u ≤ 2 * i * p + 2 * p + i * i + i → Nearest v (p + i)
    near i p v u e low high = (omega arith, omega arith)

pub first_candidate : (p w u : ℕ) → w < 2 ^ 54 → u + p * p ≡ w * 2 ^ 52 + p → 0 < u → u ≤ 2 * p → p ≡ nearest_root (w * 2 ^ 52)
first_candidate p w u h e low high = sym (add-zero p) ∙ candidate 0 p w u h e (omega arith) (omega arith)

pub second_candidate : (p w u : ℕ) → w < 2 ^ 54 → u + p * p ≡ w * 2 ^ 52 + p → 2 * p < u → u ≤ 4 * p + 2 → p + 1 ≡ nearest_root (w * 2 ^ 52)
second_candidate p w u h e low high = candidate 1 p w u h e (omega arith) (omega arith)

pub third_candidate : (p w u : ℕ) → w < 2 ^ 54 → u + p * p ≡ w * 2 ^ 52 + p → 4 * p + 2 < u → u ≤ 6 * p + 6 → p + 2 ≡ nearest_root (w * 2 ^ 52)
third_candidate p w u h e low high = candidate 2 p w u h e (omega arith) (omega arith)
