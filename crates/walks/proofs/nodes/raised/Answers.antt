-- Written out, so that a wrong `nodes::raised` is refused at once.
use Rattle.std.specs.Prelude.{ℕ, ◌+◌, Bool, true, false, ◌≡◌}
use Rattle.std.proofs.Common.{refl, arith}
use mir.Val.{bool_byte}
use Rattle.walks.specs.steps.Stacks.{raised}
use Rattle.walks.proofs.nodes.raised.Goals as goal

one : (n : ℕ) (more : Bool) → n + bool_byte more ≡ raised n more
one n true = refl
one n false = omega arith

pub returns : goal.returns
returns c = rw c.from.ensures (one _ _)
