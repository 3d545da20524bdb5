-- `ask_build` meets its contract: questions 1 to 5 are asked where the mesh is accepted, and the test that follows is question 6.
use Rattle.std.proofs.Common.{◌≡◌, sym, ap, Ok}
use Rattle.refusal.specs.laws.VerdictLaws.{answered_ok}
use Rattle.mesh.specs.Mesh.{triangle_count}
use Rattle.bvh.specs.Build.{ask_build, tree_room}
use Rattle.bvh.proofs.build.ask_build.Goals as goal
use Rattle.bvh.proofs.build.ask_build.Goals.{After-triangle_count-triangles}

-- how many triangles the mesh has
count : (c : After-triangle_count-triangles) → c.triangle_count-triangles.result ≡ triangle_count c.in_ok-mesh.mesh
count c = c.triangle_count-triangles.ensures.count

pub returns-then-triangles-boxes : goal.returns-then-triangles-boxes
unfolding ask_build tree_room
returns-then-triangles-boxes c =
    let at = (goal.at.returns-then-triangles-boxes c).After-triangle_count-triangles in
    let parts = answered_ok _ _ _ (sym c.in_ok-mesh.ensures) in
    rw (parts.0, rw (count at, parts.1) at c.if-triangles-boxes.true) (ap Ok parts.1)

pub returns-else-triangles-boxes : goal.returns-else-triangles-boxes
unfolding ask_build tree_room
returns-else-triangles-boxes c =
    let at = (goal.at.returns-else-triangles-boxes c).After-triangle_count-triangles in
    let parts = answered_ok _ _ _ (sym c.in_ok-mesh.ensures) in
    rw (parts.0, rw (count at, parts.1) at c.if-triangles-boxes.false)
