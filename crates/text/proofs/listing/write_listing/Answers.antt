-- `write_listing` meets its contract: the rows stand behind the header.
use Prim.Native.Nat.{◌+◌, ◌-◌, ◌*◌}
use native.Mathlib.Omega.{arith}
use mathlib.Core.Path.{◌≡◌}
use lib.ListN.{length}
use Rattle.lent.specs.laws.OverLaws.{over_on}
use Rattle.text.specs.Listing.{header, rows, listing_text}
use Rattle.text.specs.laws.ListingLaws.{length_line, length_rows}
use Rattle.text.proofs.listing.write_listing.Goals as goal

pub returns : goal.returns
unfolding listing_text header
returns c =
    let answers = c.args.answers.now in
    let width : 10 + 10 * length answers - 10 ≡ 10 * length answers = omega arith in
    let joined = over_on (header 0 0) (rows 0 answers) c.args.listing.now 10 (10 * length answers) (length_line 3 0 0 (omega arith)) (length_rows 0 answers) in
    rw (c.write_rows.ensures, width, c.write_header.ensures) joined
