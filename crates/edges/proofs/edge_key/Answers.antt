-- Written out, so that a wrong `edge_key` is refused at once.
use Rattle.std.proofs.Common.{sym}
use Rattle.edges.specs.laws.EdgeLaws.{edge_key_min}
use Rattle.edges.proofs.edge_key.Goals as goal

pub returns : goal.returns
returns c = rw (c.from.ensures, c.min.ensures, c.from-2.ensures, c.max.ensures) (sym (edge_key_min _ _))
