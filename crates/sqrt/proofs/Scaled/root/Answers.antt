-- `Scaled::root` meets its contract: the root has 53 digits, so with the exponent's field it makes a pattern below that of +∞, which is read as the root (`normal_pattern`).
use mathlib.Core.Path.{◌≡◌, ap, ◌∙◌}
use Prim.Native.Nat.{ℕ, ◌+◌, ◌-◌, ◌*◌, ◌/◌, ◌%◌, ◌^◌, ◌≤◌, ◌<◌}
use native.Mathlib.Omega.{arith}
use lib.Ieee.{odd}
use Rattle.float.specs.laws.Patterns.{number_pattern}
use Rattle.sqrt.specs.Root.{nearest_root}
use Rattle.sqrt.proofs.RootBits.{root_digits, normal_pattern}
use Rattle.sqrt.proofs.Scaled.root.Goals as goal

range : (digits g q : ℕ) → q ≡ nearest_root ((2 ^ 52 + digits % 2 ^ 52) * 2 ^ (52 + g % 2)) → (2 ^ 52 ≤ q) × (q < 2 ^ 53)
range digits g q e = rw e (root_digits (2 ^ 52 + digits % 2 ^ 52) g (omega arith) (omega arith))

pub overflow_add-result : goal.overflow_add-result
overflow_add-result c = omega (arith, range _ _ _ c.nearest_root-q.ensures)

pub float_from_bits-result : goal.float_from_bits-result
float_from_bits-result c = number_pattern _ (omega (arith, range _ _ _ c.nearest_root-q.ensures))

pub returns : goal.returns
returns c =
    let k = (c.args.self.g - 52) / 2 in
    let r = range _ _ _ c.nearest_root-q.ensures in
    normal_pattern k c.nearest_root-q.result (omega arith) r.0 r.1 ∙ ap (λ (q : ℕ). odd 53 _ q k 1074) c.nearest_root-q.ensures
