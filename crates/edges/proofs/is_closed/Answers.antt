-- Written out, so that a wrong `is_closed` is refused at once.
use borrow.Author.Tests.{lt-ltb}
use Rattle.edges.specs.steps.Pairs.{closed_keys}
use Rattle.edges.proofs.is_closed.Goals as goal

pub returns-then-faces-gt0 : goal.returns-then-faces-gt0
unfolding closed_keys
returns-then-faces-gt0 c = rw (lt-ltb _ _ c.if-faces-gt0.true) c.in_pairs.ensures
