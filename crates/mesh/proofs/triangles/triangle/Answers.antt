-- `triangle` meets its contract: a triangle of a face is its first corner and two that follow one another.
use native.Mathlib.Omega.{arith}
use mathlib.Core.Path.{sym, ◌∙◌}
use Rattle.mesh.specs.Triangles.{triangle}
use Rattle.mesh.specs.laws.TriangleLaws.{triangles_at, in_corners}
use Rattle.mesh.proofs.triangles.triangle.Goals as goal

pub fan_triangle-requires : goal.fan_triangle-requires
fan_triangle-requires c =
    let place = c.place_of-f.ensures in
    let within = in_corners c.args.corners.now c.args.ends.now c.args.t c.place_of-f.result.0 c.requires.0 place.0 in
    (omega (arith, within.0, place.1), within.1)

pub returns : goal.returns
returns c =
    let place = c.place_of-f.ensures in
    let found = triangles_at c.args.corners.now c.args.ends.now c.args.t c.place_of-f.result.0 (triangle 0 0 0) c.requires.0.fit c.requires.0.wide place.0 in
    c.fan_triangle.ensures ∙ sym (rw place.1 at found)
