-- `value_of` meets its contract. The invariant: what is read, with the digits that are left behind it, is the number; it has at most as many digits as were read.
use Rattle.std.proofs.Common.{◌≡◌, ◌<◌, ◌^◌, true, drop}
use Rattle.text.specs.Fields.{all_digits, value_from}
use Rattle.text.proofs.fields.value_of.Given as goal

abbrev pub invariant-loop-digit : goal.invariant-loop-digit
invariant-loop-digit l =
    (l.read < 10 ^ l.digit-index) × (value_from l.read (drop l.digit-index l.digits) ≡ value_from 0 l.digits) × (all_digits (drop l.digit-index l.digits) ≡ true)
