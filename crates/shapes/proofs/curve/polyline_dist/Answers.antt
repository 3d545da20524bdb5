-- The chunks are the polyline's points (`points_of_chunks`), and each window is the ends of its next segment.
use Rattle.std.specs.Prelude.{◌≡◌, refl, ℕ, zero, suc, ◌/◌, ◌≤◌, ◌<◌, List, [], ◌∷◌, length, map, get_or, take, drop, Float}
use Rattle.std.proofs.Common.{arith, rules, sym, ◌∙◌}
use Rattle.std.specs.Simd.{first_chunks}
use Rattle.std.specs.Slice.Iter.{windows_rest, windows_size}
use Rattle.std.specs.Float.Ieee.{of_bits}
use Rattle.float.specs.Rules.{min}
use Rattle.geom.specs.Segments.{dist_point_segment}
use Rattle.math.specs.declared.Vec3.{Vec3}
use Rattle.math.specs.laws.Chunks.{at_take, points_of_chunks}
use Rattle.math.specs.Vectors.{at}
use Rattle.shapes.specs.Polylines.{segments}
use Rattle.shapes.specs.laws.PolylineLaws.{polyline_dist_point, polyline_dist_segments}
use Rattle.shapes.proofs.curve.polyline_dist.Goals as goal

first_point : (n : ℕ) (l : List Float) → n ≡ length l / 3 → 0 < n → at (get_or (first_chunks 3 n l) 0 []) 0 ≡ at l 0
first_point zero l e h = absurd (omega arith)
first_point (suc n) l e h = at_take 3 0 l (omega arith)

-- a window takes the segment between its two points in
next_segment : (p : Vec3) (m : Float) (rest w : List (List Float)) → 2 ≤ length rest → w ≡ take 2 rest
    → segments p m (map (λ c. at c 0) rest)
    ≡ segments p (min m (dist_point_segment p (at (get_or w 0 []) 0) (at (get_or w 1 []) 0))) (map (λ c. at c 0) (drop 1 rest))
unfolding segments
next_segment p m [] w h e = absurd (omega arith)
next_segment p m (a ∷ []) w h e = absurd (omega arith)
next_segment p m (a ∷ b ∷ rest) w h e = rw e

no_segment : (p : Vec3) (m : Float) (rest : List (List Float)) → length rest < 2 → segments p m (map (λ c. at c 0) rest) ≡ m
unfolding segments
no_segment p m [] h = refl
no_segment p m (a ∷ []) h = refl
no_segment p m (a ∷ b ∷ rest) h = absurd (omega arith)

pub returns-then-points-eq1 : goal.returns-then-points-eq1
returns-then-points-eq1 c =
    let list = c.args.points.now in
    let one : length list / 3 ≡ 1 = omega (arith, c.as_chunks.ensures.front_len) in
    rw (polyline_dist_point list c.args.p one, c.norm.ensures, c.sub.ensures, c.from.ensures, c.as_chunks.ensures.front, first_point (length list / 3) list refl (omega arith))

pub loop-ends-init : goal.loop-ends-init
unfolding of_bits
loop-ends-init c =
    let list = c.args.points.now in
    let more : length list / 3 ≡ 1 → ⊥ = λ e. omega (arith, c.as_chunks.ensures.front_len) in
    let all : windows_rest c.into_iter-ends-iterator.result ≡ c.as_chunks.result.0.now = search rules in
    record {
      two = search rules;
      left = rw (all, c.as_chunks.ensures.front, points_of_chunks (length list / 3) list refl) (sym (polyline_dist_segments list c.args.p more));
    }

pub loop-ends-preserved : goal.loop-ends-preserved
loop-ends-preserved c =
    let rest = windows_rest c.loop-ends.ends-iterator in
    let s = c.in-Some.ensures.steps in
    let two : windows_size c.loop-ends.ends-iterator ≡ 2 = c.loop-ends.invariant.two in
    let next = next_segment c.args.p c.loop-ends.least rest c.in-Some.ends.now (omega (arith, s)) (rw two at s.1.1) in
    record {
      two = s.0 ∙ two;
      left = rw (s.1.2, c.min-least.ensures, c.dist_point_segment-d.ensures, c.from-in-loop-ends.ensures, c.from-in-loop-ends-2.ensures) (sym next ∙ c.loop-ends.invariant.left);
    }

pub returns : goal.returns
returns c = let s = c.in-None.ensures.steps in sym (no_segment c.args.p c.loop-ends.least (windows_rest c.loop-ends.ends-iterator) (omega (arith, s))) ∙ c.loop-ends.invariant.left
