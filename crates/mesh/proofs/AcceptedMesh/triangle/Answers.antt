-- `AcceptedMesh::triangle` meets its contract: the faces of an accepted mesh are wide, and the corners of their triangles finite vertices.
use Rattle.mesh_questions.specs.laws.AcceptedLaws.{fanned}
use Rattle.mesh.specs.Triangles.{triangle}
use Rattle.mesh.specs.laws.CornerLaws.{triangle_corners, triangle_finite}
use Rattle.mesh.proofs.AcceptedMesh.triangle.Goals as goal

pub triangle-requires : goal.triangle-requires
triangle-requires c = (fanned c.self.invariant.0, c.self.invariant.1, rw (← c.self.view_is) at c.requires)

pub returns-clause-corners : goal.returns-clause-corners
returns-clause-corners c =
    let below = rw (← c.self.view_is) at c.requires in
    rw (c.triangle.ensures, ← c.self.view_is) (triangle_corners _ _ _ c.self.invariant.0 c.args.t (triangle 0 0 0) below)

pub returns-clause-finite : goal.returns-clause-finite
returns-clause-finite c =
    let below = rw (← c.self.view_is) at c.requires in
    rw (c.triangle.ensures, ← c.self.view_is) (triangle_finite _ _ _ c.self.invariant.0 c.args.t (triangle 0 0 0) below)
