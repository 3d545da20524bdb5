-- Written out, so that a wrong `whole_vertices` is refused at once.
use Rattle.std.proofs.Common.{refl}
use Rattle.mesh_questions.specs.MeshQuestions.{whole_vertices}
use Rattle.mesh_questions.proofs.whole_vertices.Goals as goal

pub returns : goal.returns
unfolding whole_vertices
returns c = refl
