-- Written out, so that a wrong `votes::with_found` is refused at once.
use Rattle.scan.specs.steps.VoteSteps.{with_found}
use Rattle.scan.proofs.votes.with_found.Goals as goal

pub returns-in-Miss : goal.returns-in-Miss
unfolding with_found
returns-in-Miss c = rw c.in-Miss.is cc

pub returns-in-Odd : goal.returns-in-Odd
unfolding with_found
returns-in-Odd c = rw (c.in_ok-parity.was, c.in-Hit.is, c.in-Odd.is)

pub returns-in-Degenerate : goal.returns-in-Degenerate
unfolding with_found
returns-in-Degenerate c = rw c.in-Degenerate.is

pub returns-in-Even : goal.returns-in-Even
unfolding with_found
returns-in-Even c = rw (c.in_ok-parity.was, c.in-Hit.is, c.in-Even.is)
