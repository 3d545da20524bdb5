-- `place_of` meets its contract: where all faces have three corners, or four, the face is worked out.
use mathlib.Core.Path.{sym, ◌∙◌}
use Rattle.mesh.specs.laws.TriangleLaws.{in_triangle, in_quad, placed}
use Rattle.mesh.proofs.triangles.place_of.Goals as goal

pub face_of-f-requires : goal.face_of-f-requires
face_of-f-requires c = placed c.args.corners.now c.args.ends.now c.args.t c.requires.0 c.requires.2

pub returns-in-Three : goal.returns-in-Three
returns-in-Three c = in_triangle c.args.corners.now c.args.ends.now c.requires.0 c.args.t c.requires.2 (sym c.requires.1 ∙ c.in-Three.is)

pub returns-in-Four : goal.returns-in-Four
returns-in-Four c = in_quad c.args.corners.now c.args.ends.now c.requires.0 c.args.t c.requires.2 (sym c.requires.1 ∙ c.in-Four.is)
