-- `write_field` meets its contract. The invariant: what is left of the number, in front of the bytes from i on, is the field.
use Rattle.std.proofs.Common.{◌≡◌, false, ◌++◌, length, drop}
use Rattle.text.specs.Fields.{field_text}
use Rattle.text.proofs.fields.write_field.Given as goal

abbrev pub invariant-loop-i : goal.invariant-loop-i
invariant-loop-i l = field_text false l.i l.rest ++ drop l.i l.field ≡ field_text false (length l.initial.field) l.n
