-- `ask_vertices` meets its contract: the first vertex that is not finite is the one that is refused.
use Rattle.math.specs.Vectors.{points}
use Rattle.refusal.specs.declared.Refusal.TheVariants.{NotFinite}
use Rattle.mesh_questions.specs.laws.QuestionLaws.{ask_finite_found}
use Rattle.mesh_questions.proofs.ask_vertices.Goals as goal

pub returns : goal.returns
returns c = ask_finite_found NotFinite (points c.args.coords.now) c.ask_finite.result c.ask_finite.ensures
