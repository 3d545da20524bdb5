-- Written out, so that a wrong `may_follow` is refused at once.
use native.Mathlib.Omega.{arith}
use borrow.Author.Tests.{lt-ltb}
use Rattle.text.specs.Lines.{fits, may_follow}
use Rattle.text.proofs.may_follow.Goals as goal

pub returns-in-Triangle : goal.returns-in-Triangle
returns-in-Triangle c =
    unfold may_follow fits in rw (← c.lines_in.ensures, lt-ltb c.lines_in.result 1024 (omega (arith, c.if-lines_in-ge1024.false)), c.in-Triangle.is)

pub returns-in-Vertex : goal.returns-in-Vertex
returns-in-Vertex c =
    unfold may_follow fits in rw (← c.lines_in.ensures, lt-ltb c.lines_in.result 1024 (omega (arith, c.if-lines_in-ge1024.false)), c.in-Vertex.is)
