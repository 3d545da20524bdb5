-- `write_rows` meets its contract: each round writes one more row.
use Rattle.std.proofs.Common.{◌≡◌, ◌+◌, ◌-◌, ◌*◌, arith, sym}
use Rattle.lent.specs.laws.OverLaws.{over_nothing}
use Rattle.text.specs.Listing as Listing
use Rattle.text.specs.laws.ListingLaws.{rows_written}
use Rattle.text.proofs.listing.write_rows.Goals as goal

pub loop-i-init : goal.loop-i-init
unfolding Listing.rows
loop-i-init c = sym (over_nothing c.args.rows.now)

pub loop-i-preserved : goal.loop-i-preserved
loop-i-preserved c =
    let i = c.loop-i.i in
    let width : 10 * i + 10 - 10 * i ≡ 10 = omega arith in
    rw (width, c.write_line.ensures, c.from.ensures, c.loop-i.invariant) (rows_written c.args.answers.now c.args.rows.now i (omega arith))
