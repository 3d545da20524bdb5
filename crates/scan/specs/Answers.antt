-- The answers to points as bytes (document 01: 0 outside, 1 inside, 2 undecided). Definitions only.
use Rattle.std.specs.Prelude.{ℕ}
use Rattle.scan.specs.declared.votes.Answer.{Answer}
use Rattle.scan.specs.declared.votes.Answer.TheVariants.{Outside, Inside, Undecided}
use Rattle.scan.specs.Scan.{outside, inside, undecided}

-- the byte of an answer
abbrev pub byte : Answer → ℕ
byte Outside = outside
byte Inside = inside
byte Undecided = undecided
