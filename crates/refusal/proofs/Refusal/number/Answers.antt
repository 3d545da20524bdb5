-- Written out, so that a wrong `Refusal::number` is refused at once.
use Rattle.refusal.proofs.Refusal.number.Goals as goal

pub returns-in-CornerOut : goal.returns-in-CornerOut
returns-in-CornerOut c = rw c.in-CornerOut.is
