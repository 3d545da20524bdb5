-- `Mesh::ask` meets its contract: the calls promise the two parts of the definition. Each face of an accepted mesh has three corners, so the
-- number of triangles does not fall below 0.
use native.Mathlib.Omega.{arith}
use mathlib.Core.Path.{◌≡◌, sym}
use Rattle.refusal.specs.Verdicts.{Passed}
use Rattle.mesh_questions.specs.MeshQuestions.{ask_mesh}
use Rattle.mesh_questions.specs.laws.AcceptedLaws.{wide_corners, lengths_of, accepted}
use Rattle.mesh_questions.proofs.Mesh.ask.Goals as goal

pub ask_parts-requires : goal.ask_parts-requires
ask_parts-requires c = (lengths_of _ _ _ (sym c.in_ok-ask_lengths.ensures)).0

pub overflow_sub-result : goal.overflow_sub-result
unfolding ask_mesh
overflow_sub-result c =
    let m = c.args.self.now in
    let passed : ask_mesh m.coords m.corners m.ends ≡ Passed = rw (sym c.in_ok-ask_lengths.ensures, sym c.in_ok-ask_parts.ensures) in
    let mesh = accepted m.coords m.corners m.ends passed in
    let enough = rw (← c.self.view_is) at (wide_corners 0 _ m.ends mesh.lengths.fit mesh.wide) in
    omega (arith, enough)
