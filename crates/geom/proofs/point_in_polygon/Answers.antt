-- Pair k holds the two numbers of vertex k (`vertex_of`), so the laws of the walk round the polygon go from pair to pair.
use Rattle.std.specs.Prelude.{◌≡◌, ℕ, ◌-◌, ◌/◌, ◌<◌, List, [], length, get_or, true, false}
use Rattle.std.proofs.Common.{arith, sym, ◌∙◌, add-zero}
use Rattle.std.specs.Float.{nan, Float}
use Rattle.std.specs.Float.Ieee.{le}
use Rattle.std.specs.Simd.{first_chunks}
use Rattle.math.specs.laws.Chunks.{in_chunk}
use Rattle.geom.specs.laws.PolygonLaws.{points2_short, around_on, around_off, around_end, point_in_polygon_around}
use Rattle.geom.specs.Polygons.{vertex, in_polygon, point_in_polygon}
use Rattle.geom.specs.Segments.{dist_point_segment2d}
use Rattle.geom.proofs.point_in_polygon.Goals as goal
use Rattle.geom.proofs.point_in_polygon.Goals.{After-from-i}

vertex_of : (l : List Float) (pairs : List (List Float)) (k : ℕ) → pairs ≡ first_chunks 2 (length l / 2) l → k < length l / 2 → vertex (get_or pairs k []) 0 ≡ vertex l k
unfolding vertex
vertex_of l pairs k e h =
    let u = in_chunk 2 (length l / 2) k 0 l nan h (omega arith) in
    let v = in_chunk 2 (length l / 2) k 1 l nan h (omega arith) in
    rw (e, u, v, add-zero)

-- the vertex of the next pair
this_vertex : (c : After-from-i) → c.from-i.result ≡ vertex c.args.poly.now c.loop-pair.pair-index
this_vertex c =
    c.from-i.ensures ∙ vertex_of c.args.poly.now c.as_chunks.result.0.now c.loop-pair.pair-index c.as_chunks.ensures.front (omega (arith, c.as_chunks.ensures.front_len))

pub returns-in_default : goal.returns-in_default
unfolding point_in_polygon in_polygon
returns-in_default c = rw (points2_short c.args.poly.now (omega (arith, c.in_default.ensures.item)))

pub loop-pair-init : goal.loop-pair-init
loop-pair-init c =
    let poly = c.args.poly.now in
    let pairs = c.as_chunks.result.0.now in
    let count : length pairs ≡ length poly / 2 = c.as_chunks.ensures.front_len in
    let some : 0 < length pairs = c.in-Some.ensures.item.3.0 in
    let end : c.in-Some.last.now ≡ get_or pairs (length poly / 2 - 1) [] = rw count at (c.in-Some.ensures.item.3.1 []) in
    let start = point_in_polygon_around c.args.p poly (length poly / 2 - 1) (omega arith) in
    rw (c.from-j.ensures, end, vertex_of poly pairs (length poly / 2 - 1) c.as_chunks.ensures.front (omega arith), c.tol_of-eps.ensures, c.scale.ensures) (sym start)

pub returns-then-dist_point_segment_2d-eps : goal.returns-then-dist_point_segment_2d-eps
returns-then-dist_point_segment_2d-eps c =
    let p = c.args.p in
    let poly = c.args.poly.now in
    let k = c.loop-pair.pair-index in
    let i = this_vertex (goal.at.returns-then-dist_point_segment_2d-eps c).After-from-i in
    let on : le (dist_point_segment2d p (vertex poly k) c.loop-pair.j) c.tol_of-eps.result ≡ true = rw (← i, ← c.dist_point_segment_2d.ensures) c.if-dist_point_segment_2d-eps.true in
    sym (around_on p _ c.loop-pair.j c.loop-pair.inside poly k (omega (arith, c.as_chunks.ensures.front_len)) on) ∙ c.loop-pair.invariant

pub loop-pair-preserved : goal.loop-pair-preserved
loop-pair-preserved c =
    let p = c.args.p in
    let poly = c.args.poly.now in
    let k = c.loop-pair.pair-index in
    let i = this_vertex (goal.at.loop-pair-preserved c).After-from-i in
    let off : le (dist_point_segment2d p (vertex poly k) c.loop-pair.j) c.tol_of-eps.result ≡ false = rw (← i, ← c.dist_point_segment_2d.ensures) c.if-dist_point_segment_2d-eps.false in
    rw (c.crosses-inside.ensures, i) (sym (around_off p _ c.loop-pair.j c.loop-pair.inside poly k (omega (arith, c.as_chunks.ensures.front_len)) off) ∙ c.loop-pair.invariant)

pub returns : goal.returns
returns c = sym (around_end _ _ _ _ c.args.poly.now c.loop-pair.pair-index (omega (arith, c.as_chunks.ensures.front_len))) ∙ c.loop-pair.invariant
