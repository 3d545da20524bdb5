-- Written out, so that a wrong `votes::Votes::majority` is refused at once.
use borrow.Author.Tests.{lt-ltb}
use Rattle.scan.specs.Scan.{majority}
use Rattle.scan.proofs.votes.Votes.majority.Goals as goal

pub returns-then-self : goal.returns-then-self
unfolding majority
returns-then-self c = rw (lt-ltb _ _ c.if-self.true)
