-- `highest` meets its contract: the infinity that the definition starts from gives way to the first number.
use Rattle.float.specs.laws.Order.{max_number, max_bottom}
use Rattle.math.proofs.highest.Goals as goal

pub higher-requires-2 : goal.higher-requires-2
higher-requires-2 c = rw c.higher.ensures (max_number c.args.a c.args.b c.requires.0 c.requires.1)

pub returns : goal.returns
returns c = rw (c.higher-2.ensures, c.higher.ensures, max_bottom c.args.a c.requires.0)
