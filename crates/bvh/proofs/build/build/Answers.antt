-- `build` meets its contract: what was asked decides, and the written tree is put in front of the lent lists.
use Rattle.std.proofs.Common.{◌≡◌, ◌≤◌, length, sym, arith}
use lib.Seq.{length-take-le}
use Rattle.std.proofs.lemmas.Result.{err_from_is_err_and}
use Rattle.refusal.specs.Verdicts.{Passed}
use Rattle.refusal.specs.laws.VerdictLaws.{answered_ok, answered_err}
use Rattle.mesh.specs.Mesh.{triangle_count}
use Rattle.bvh.specs.Build.{build_verdict}
use Rattle.bvh.specs.laws.BuildLaws.{rooms, builds_refused, builds_none, builds_room, builds_all}
use Rattle.bvh.proofs.build.build.Goals as goal
use Rattle.bvh.proofs.build.build.Goals.{After-triangle_count-triangles}

-- the questions passed, the accepted mesh is the lent one, and how many triangles it has
passed : (c : After-triangle_count-triangles)
    → (build_verdict c.args.mesh.now c.args.boxes.now c.args.nodes.now c.args.items.now ≡ Passed) × (c.in_ok-mesh.mesh ≡ c.args.mesh.now)
    × (c.triangle_count-triangles.result ≡ triangle_count c.args.mesh.now)
passed c =
    let parts = answered_ok _ _ _ (sym c.in_ok-mesh.ensures) in
    (parts.0, parts.1, rw parts.1 at c.triangle_count-triangles.ensures.count)

-- there is an item place for each triangle
places : (c : After-triangle_count-triangles) → c.triangle_count-triangles.result ≤ length c.args.items.now
places c =
    let p = passed c in
    omega (arith, p.2, (rooms c.args.mesh.now c.args.boxes.now c.args.nodes.now c.args.items.now p.0).2)

pub returns-in_err-mesh : goal.returns-in_err-mesh
returns-in_err-mesh c =
    let a = c.args in
    let p = err_from_is_err_and c.from_residual.result c.from_residual.ensures.1 in
    rw (p.1, p.2) (builds_refused a.mesh.now a.boxes.now a.nodes.now a.items.now _ (answered_err _ _ _ (sym c.in_err-mesh.ensures)))

pub returns-then-triangles-eq0 : goal.returns-then-triangles-eq0
returns-then-triangles-eq0 c =
    let a = c.args in
    let p = passed (goal.at.returns-then-triangles-eq0 c).After-triangle_count-triangles in
    builds_none a.mesh.now a.boxes.now a.nodes.now a.items.now p.0 (omega (arith, p.2, c.if-triangles-eq0.true))

pub slice_bounds-items-end : goal.slice_bounds-items-end
slice_bounds-items-end c = places (goal.at.slice_bounds-items-end c).After-triangle_count-triangles

pub slice_bounds-items-end-2 : goal.slice_bounds-items-end-2
slice_bounds-items-end-2 c = sym (length-take-le _ c.args.items.now (places (goal.at.slice_bounds-items-end-2 c).After-triangle_count-triangles))

pub build_node-tree-requires : goal.build_node-tree-requires
build_node-tree-requires c =
    let a = c.args in
    let at = (goal.at.build_node-tree-requires c).After-triangle_count-triangles in
    let p = passed at in
    rw (p.1, c.number_items.ensures, length-take-le _ a.items.now (places at), p.2) (builds_room a.mesh.now a.boxes.now a.nodes.now a.items.now p.0 (omega (arith, p.2, c.if-triangles-eq0.false)))

pub returns : goal.returns
returns c =
    let a = c.args in
    let at = (goal.at.returns c).After-triangle_count-triangles in
    let p = passed at in
    let written = rw (p.1, c.number_items.ensures, length-take-le _ a.items.now (places at), p.2) at c.build_node-tree.ensures in
    rw p.2 (builds_all a.mesh.now a.boxes.now a.nodes.now a.items.now p.0 (omega (arith, p.2, c.if-triangles-eq0.false)) _ _ _ _ written)
