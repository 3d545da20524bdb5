-- `AcceptedMesh::triangle_count` meets its contract: each face of an accepted mesh has three corners.
use native.Mathlib.Omega.{arith}
use Rattle.mesh_questions.specs.laws.AcceptedLaws.{wide_corners}
use Rattle.mesh.proofs.AcceptedMesh.triangle_count.Goals as goal

pub overflow_sub-result : goal.overflow_sub-result
overflow_sub-result c =
    let m = c.self.invariant.0 in
    omega (arith, wide_corners 0 _ c.self.inside.ends.now m.lengths.fit m.wide)

-- Written out, so that a wrong `triangle_count` is refused at once.
pub returns-clause-count : goal.returns-clause-count
returns-clause-count c = rw (← c.self.view_is)
