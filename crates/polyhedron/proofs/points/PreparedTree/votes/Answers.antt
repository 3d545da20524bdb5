use Prim.Native.Nat.{◌<◌}
use native.Mathlib.Omega.{arith}
use mathlib.Core.Path.{◌≡◌, refl, sym, ◌∙◌, ap}
use Rattle.std.specs.Prelude.{map}
use Rattle.std.proofs.Common.{rules}
use Rattle.scan.specs.Scan as Scan
use Rattle.scan.specs.Scan.{vote, directions, votes_from}
use Rattle.tree.specs.steps.AcceptedTree.{AcceptedTree}
use Rattle.walks.specs.steps.Casts.{direction, heading}
use Rattle.walks.specs.laws.WalkScan.{walk_vote_scan}
use Rattle.polyhedron.specs.declared.points.Prepared.{Prepared}
use Rattle.polyhedron.specs.steps.Points.{prepared, Right}
use Rattle.polyhedron.specs.laws.VoteLaws.{heading_at, inverse_factors, votes_from_next, counted_sum}
use Rattle.polyhedron.proofs.points.PreparedTree.votes.Goals as goal

-- the headings that were prepared
headings : {t : AcceptedTree} {given : Prepared} → Right t given → given.headings ≡ map heading directions
unfolding prepared
headings right = ap (λ (p : Prepared). p.headings) right.prepared

pub loop-heading-init : goal.loop-heading-init
unfolding Scan.votes
loop-heading-init c =
    let none : (c.default-votes.result.odd ≡ 0) × (c.default-votes.result.even ≡ 0) = search rules in
    (omega (arith, none), rw (none.0, none.1))

pub returns-then-ended : goal.returns-then-ended
returns-then-ended c =
    let l = c.loop-heading in
    sym (votes_from_next (vote c.args.self.now c.args.p) l.votes l.heading-index c.loop-heading-test.true ∙ rw (sym c.ended.ensures, c.if-ended.true)) ∙ l.invariant.1

pub invariant_of-ray : goal.invariant_of-ray
unfolding heading
invariant_of-ray c =
    let k = c.loop-heading.heading-index in
    let there : k < 3 = c.loop-heading-test.true in
    rw (headings c.self.invariant, heading_at k _ there) (record { finite = c.requires; inverse = refl; factors = inverse_factors k there; near = refl })

pub loop-heading-preserved : goal.loop-heading-preserved
unfolding heading
loop-heading-preserved c =
    let k = c.loop-heading.heading-index in
    let there : k < 3 = c.loop-heading-test.true in
    let walked = rw (headings c.self.invariant, heading_at k _ there) at c.ray_walk.ensures in
    let vote = walked ∙ walk_vote_scan c.self.invariant.ready c.args.p (direction k) c.requires (inverse_factors k there) in
    let next = votes_from_next (Scan.vote c.self.inside.tree.now.mesh c.args.p) c.loop-heading.votes k there in
    let before = rw (← c.self.view_is) at c.loop-heading.invariant.1 in
    let sum = counted_sum c.loop-heading.votes c.ray_walk.result in (
      rw c.counted-votes.ensures (omega (arith, sum, c.loop-heading.invariant.0)),
      rw (c.counted-votes.ensures, vote, ← c.self.view_is) (sym (next ∙ rw (sym c.ended.ensures, c.if-ended.false)) ∙ before),
    )

pub returns : goal.returns
unfolding directions votes_from
returns c =
    let all : c.loop-heading.heading-index ≡ 3 = omega (arith, c.loop-heading-test.false, c.loop-heading.auto.heading-index-end) in
    rw all at c.loop-heading.invariant.1
