-- `lowest` meets its contract: the infinity that the definition starts from gives way to the first number.
use Rattle.float.specs.laws.Order.{min_number, min_top}
use Rattle.math.proofs.lowest.Goals as goal

pub lower-requires-2 : goal.lower-requires-2
lower-requires-2 c = rw c.lower.ensures (min_number c.args.a c.args.b c.requires.0 c.requires.1)

pub returns : goal.returns
returns c = rw (c.lower-2.ensures, c.lower.ensures, min_top c.args.a c.requires.0)
