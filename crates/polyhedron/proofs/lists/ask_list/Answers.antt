-- `ask_list` meets its contract: where question 8 passes, the list is short, and the first point that is not finite is the one that is refused.
use Rattle.std.proofs.Common.{◌≡◌, true, length, sym, ◌∙◌}
use Rattle.refusal.specs.declared.Refusal.TheVariants.{Point}
use Rattle.math.specs.Vectors.{points}
use Rattle.mesh_questions.specs.laws.QuestionLaws.{ask_finite_found}
use Rattle.polyhedron.specs.PointLists.{list_fits, ask_points, ask_list}
use Rattle.polyhedron.specs.laws.ListLaws.{list_short}
use Rattle.polyhedron.proofs.lists.ask_list.Goals as goal

pub ask_finite-requires-clause-few : goal.ask_finite-requires-clause-few
ask_finite-requires-clause-few c = list_short c.args.points.now c.args.places (sym c.list_fits.ensures ∙ c.if-not-list_fits.false)

pub returns : goal.returns
unfolding ask_list ask_points
returns c =
    let fits : list_fits (length c.args.points.now) c.args.places ≡ true = sym c.list_fits.ensures ∙ c.if-not-list_fits.false in
    rw fits (ask_finite_found Point (points c.args.points.now) c.ask_finite.result c.ask_finite.ensures)
