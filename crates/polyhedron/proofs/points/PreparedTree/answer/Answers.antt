-- `PreparedTree::answer` meets its contract: over a tree that keeps the rules the walks find what the plain scan finds.
use mathlib.Core.Path.{◌≡◌, sym, ◌∙◌, ap}
use Rattle.mesh.specs.Mesh.{all_triangles}
use Rattle.mesh_questions.specs.Faces.{faces}
use Rattle.mesh.specs.declared.boxes.Bounds.{Bounds}
use Rattle.mesh.specs.MeshBoxes.{mesh_box, surface_eps, grown, prepare}
use Rattle.edges.specs.Edges.{closed}
use Rattle.tree.specs.steps.AcceptedTree.{AcceptedTree}
use Rattle.polyhedron.specs.declared.points.Prepared.{Prepared}
use Rattle.polyhedron.specs.steps.Points.{prepared, Right}
use Rattle.scan.specs.Scan.{some, touches, scan_rule, rule_answer, plain_scan}
use Rattle.walks.specs.laws.WalkScan.{walk_touches_scan}
use Rattle.polyhedron.specs.laws.VoteLaws.{eps_positive}
use Rattle.polyhedron.proofs.points.PreparedTree.answer.Goals.{After-surface_walk}
use Rattle.polyhedron.proofs.points.PreparedTree.answer.Goals as goal

-- what was prepared
module _ {t : AcceptedTree} {given : Prepared} (right : Right t given) where
  bounds : given.bounds ≡ prepare t.mesh.coords
  unfolding prepared
  bounds = ap (λ (p : Prepared). p.bounds) right.prepared

  grown_box : grown (mesh_box t.mesh.coords) ≡ given.bounds.grown
  unfolding prepare
  grown_box = sym (ap (λ (b : Bounds). b.grown) bounds)

  tolerance : surface_eps (mesh_box t.mesh.coords) ≡ given.bounds.eps
  unfolding prepare
  tolerance = sym (ap (λ (b : Bounds). b.eps) bounds)

  mesh_closed : closed (faces t.mesh.corners t.mesh.ends) ≡ given.closed
  unfolding prepared
  mesh_closed = sym (ap (λ (p : Prepared). p.closed) right.prepared)

-- the surface walk's answer is the scan's
touched : (c : After-surface_walk) → c.surface_walk.result ≡ some (touches c.self.inside.tree.now.mesh c.self.inside.prepared.bounds.eps c.args.p) (all_triangles c.self.inside.tree.now.mesh)
touched c = c.surface_walk.ensures ∙ walk_touches_scan c.self.invariant.ready _ _ (rw (bounds c.self.invariant) (eps_positive c.self.inside.tree.now.mesh))

pub returns-then-not-contains : goal.returns-then-not-contains
unfolding plain_scan scan_rule rule_answer
returns-then-not-contains c =
    let right = c.self.invariant in
    rw (← c.self.view_is, grown_box right, sym c.contains.ensures, c.if-not-contains.true)

pub returns-then-surface_walk : goal.returns-then-surface_walk
unfolding plain_scan scan_rule rule_answer
returns-then-surface_walk c =
    let right = c.self.invariant in
    rw (← c.self.view_is, grown_box right, sym c.contains.ensures, c.if-not-contains.false, tolerance right, sym (touched (goal.at.returns-then-surface_walk c).After-surface_walk), c.if-surface_walk.true)

pub returns-then-not-self : goal.returns-then-not-self
unfolding plain_scan scan_rule rule_answer
returns-then-not-self c =
    let right = c.self.invariant in
    rw (← c.self.view_is, grown_box right, sym c.contains.ensures, c.if-not-contains.false, tolerance right, sym (touched (goal.at.returns-then-not-self c).After-surface_walk), c.if-surface_walk.false, mesh_closed right, c.if-not-self.true)

pub returns : goal.returns
unfolding plain_scan scan_rule rule_answer
returns c =
    let right = c.self.invariant in
    rw
    (← c.self.view_is, grown_box right, sym c.contains.ensures, c.if-not-contains.false, tolerance right, sym (touched (goal.at.returns c).After-surface_walk), c.if-surface_walk.false, mesh_closed right, c.if-not-self.false)
    (rw (c.votes.ensures, ← c.self.view_is) at c.majority.ensures)
