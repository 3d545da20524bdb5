-- Written out, so that a wrong `boxed` is refused at once.
use Rattle.std.specs.Prelude.{Bool, true, false, cond, ◌≡◌, Some, None}
use Rattle.std.specs.Bool.{then_some}
use Rattle.std.proofs.Common.{refl}
use Rattle.tree.specs.declared.Walked.{Walked}
use Rattle.tree.specs.steps.TreeTest.{boxed_by}
use Rattle.tree_check.proofs.boxed.Goals as goal

some_if : (b : Bool) (w : Walked) → then_some b w ≡ cond b (Some w) None
some_if true w = refl
some_if false w = refl

pub returns : goal.returns
unfolding boxed_by
returns c = rw (c.then_some.ensures, c.encloses.ensures) (some_if _ _)
