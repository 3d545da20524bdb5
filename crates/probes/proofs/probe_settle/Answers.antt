-- `probe_settle` meets its contract: a root that `settle` gives is the nearest, and otherwise the answer is 0.
use mathlib.Core.Path.{◌≡◌, refl}
use mathlib.Core.Logic.{◌⊎◌, inl, inr}
use Prim.Native.Nat.{ℕ}
use Rattle.std.specs.Prelude.{Option, Some, None, unwrap_or}
use Rattle.sqrt.specs.Root.{nearest_root}
use Rattle.sqrt.specs.steps.RootSteps.{Finds}
use Rattle.probes.proofs.probe_settle.Goals as goal

found_or_none : (v : ℕ) (o : Option ℕ) → Finds v o → (unwrap_or o 0 ≡ 0) ⊎ (unwrap_or o 0 ≡ nearest_root v)
found_or_none v None h = inl refl
found_or_none v (Some q) h = inr h

pub returns : goal.returns
returns c = rw c.unwrap_or.ensures (found_or_none _ c.settle.result c.settle.ensures)
