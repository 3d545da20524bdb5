-- `write_rows` meets its contract: after i rounds the first i rows stand in front.
use Rattle.std.proofs.Common.{◌≡◌, take}
use Rattle.lent.specs.Over.{over}
use Rattle.text.specs.Listing as Listing
use Rattle.text.proofs.listing.write_rows.Given as goal

abbrev pub invariant-loop-i : goal.invariant-loop-i
invariant-loop-i l = l.rows ≡ over (Listing.rows 0 (take l.i l.answers)) l.initial.rows
