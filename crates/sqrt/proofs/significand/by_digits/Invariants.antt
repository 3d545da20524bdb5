-- `significand::by_digits` meets its contract. The digits found so far are the first of the root (`Digits`).
use Prim.Native.Nat.{◌%◌, ◌^◌}
use Rattle.sqrt.proofs.DigitRoot.{Digits}
use Rattle.sqrt.proofs.significand.by_digits.Given as goal

abbrev pub invariant-loop : goal.invariant-loop
invariant-loop l = Digits (l.w % 2 ^ 54) l.counter l.rest l.root l.over
