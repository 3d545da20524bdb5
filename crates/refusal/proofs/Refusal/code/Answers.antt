-- Written out, so that a wrong `Refusal::code` is refused at once.
use Rattle.refusal.proofs.Refusal.code.Goals as goal

pub returns : goal.returns
returns c = rw (c.number.ensures, c.from.ensures, c.place.ensures)
