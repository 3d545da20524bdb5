-- `write_line` meets its contract: the two calls write the fields, the store the line feed.
use Prim.Native.Nat.{◌-◌}
use native.Mathlib.Omega.{arith}
use mathlib.Core.Path.{◌≡◌}
use mathlib.Core.Bool.{false}
use mathlib.Core.List.{◌++◌}
use lib.ListN.{length, take, drop, length-append, length-take, length-drop}
use lib.Seq.{length-take-le}
use Rattle.text.specs.Fields.{field_text}
use Rattle.text.specs.laws.ListingLaws.{length_field, line_written}
use Rattle.text.proofs.listing.write_line.Goals as goal

pub returns : goal.returns
returns c =
    let line = c.args.line.now in
    let width = c.args.width in
    let a = c.args.a in
    let b = c.args.b in
    let first = rw (length-take-le width line (omega arith)) at c.write_field.ensures in
    let long : length (take (9 - width) (drop width (field_text false width a ++ drop width line))) ≡ 9 - width = simp (length-take, length-drop, length-append) (omega (arith, length_field false width a)) in
    let second = rw (first, long) at c.write_field-2.ensures in
    rw (first, second) (line_written width a b line (omega arith) (omega arith))
