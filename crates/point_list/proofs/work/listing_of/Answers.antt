-- By cases of what the call answers.
use Rattle.std.proofs.Common.{length, arith, sym, ◌∙◌}
use borrow.Author.Tests.{le-leb, lt-leb}
use Rattle.lent.specs.laws.OverLaws.{over_nothing}
use Rattle.refusal.specs.Verdicts.{written}
use Rattle.text.specs.Listing.{header}
use Rattle.text.specs.laws.ListingLaws.{length_line}
use Rattle.column.specs.Column.{column_answer}
use Rattle.refusal.specs.laws.VerdictLaws.{answered_ok, answered_err}
use Rattle.point_list.specs.Printed.{answer_or, printed}
use Rattle.point_list.proofs.work.listing_of.Goals as goal

pub returns-then-listing-lt-LONGEST : goal.returns-then-listing-lt-LONGEST
unfolding printed
returns-then-listing-lt-LONGEST c =
    let short = lt-leb 5130 (length c.args.listing.now) (omega arith) in
    record { bytes = rw short; listing = rw short (sym (over_nothing c.args.listing.now)) }

pub returns-in-Err : goal.returns-in-Err
unfolding printed answer_or column_answer written header
returns-in-Err c =
    let lists = c.point_list.ensures in
    let enough = le-leb 5130 (length c.args.listing.now) (omega arith) in
    let refused = answered_err _ _ _ (sym lists.answer ∙ c.in-Err.is) in
    let same = rw refused at lists.listing in
    let written = rw (c.number.ensures, c.from.ensures, c.place.ensures, same, over_nothing) at c.write_header.ensures in
    record { bytes = rw (enough, refused) (sym (length_line 3 _ _ (omega arith))); listing = rw (enough, refused) written }

pub returns-in-Ok : goal.returns-in-Ok
unfolding printed answer_or
returns-in-Ok c =
    let lists = c.point_list.ensures in
    let enough = le-leb 5130 (length c.args.listing.now) (omega arith) in
    let found = answered_ok _ _ _ (sym lists.answer ∙ c.in-Ok.is) in
    record { bytes = rw (enough, found.0) found.1; listing = rw (enough, found.0) lists.listing }
