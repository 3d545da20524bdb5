-- `list_answers` meets its contract: `CallLaws` leads from what its calls promise to the listing.
use native.Mathlib.Omega.{arith}
use mathlib.Core.Path.{sym}
use lib.ListN.{length}
use Rattle.std.proofs.lemmas.Result.{err_from_is_err_and}
use Rattle.mesh_questions.specs.laws.AcceptedLaws.{asked_passed, asked_refused}
use Rattle.polyhedron.specs.laws.ListLaws.{length_answers_to, list_passed}
use Rattle.text.specs.Listing.{listing_length}
use Rattle.column.specs.laws.CallLaws.{refused_mesh, refused_room, listed_answers}
use Rattle.column.proofs.list_answers.Goals as goal

pub returns-in_err-ask : goal.returns-in_err-ask
returns-in_err-ask c =
    let p = err_from_is_err_and c.from_residual.result c.from_residual.ensures.1 in
    rw (p.1, p.2) (refused_mesh c.args.mesh.now c.args.points.now (length c.args.answers.now) c.args.listing.now _ (asked_refused _ _ _ _ (sym c.in_err-ask.ensures)))

pub returns-then-listing-bytes : goal.returns-then-listing-bytes
unfolding listing_length
returns-then-listing-bytes c =
    refused_room c.args.mesh.now c.args.points.now (length c.args.answers.now) c.args.listing.now (asked_passed _ _ _ _ (sym c.in_ok-ask.ensures)) c.if-listing-bytes.true

pub answer_points-requires : goal.answer_points-requires
answer_points-requires c = record { few = c.requires; accepted = asked_passed _ _ _ _ (sym c.in_ok-ask.ensures) }

pub write_listing-requires : goal.write_listing-requires
unfolding listing_length
write_listing-requires c =
    let long = length_answers_to c.args.mesh.now c.args.points.now in
    let places = (list_passed c.args.points.now (length c.args.answers.now) c.requires.list).0 in
    rw c.answer_points.ensures (omega (arith, long, places, c.requires.few), omega (arith, long, places, c.if-listing-bytes.false))

pub returns : goal.returns
unfolding listing_length
returns c =
    listed_answers c.args.mesh.now c.args.points.now (length c.args.answers.now) c.args.listing.now (asked_passed _ _ _ _ (sym c.in_ok-ask.ensures)) _ c.if-listing-bytes.false (rw c.answer_points.ensures at c.write_listing.ensures)
