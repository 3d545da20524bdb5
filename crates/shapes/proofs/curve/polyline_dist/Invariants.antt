-- `polyline_dist` meets its contract. The invariant: with the least distance so far, the segments between the points that are left give
-- the polyline's distance.
use Rattle.std.specs.Prelude.{◌≡◌, map}
use Rattle.std.specs.Slice.Iter.{windows_rest, windows_size}
use Rattle.math.specs.Vectors.{at}
use Rattle.shapes.specs.Polylines.{segments, polyline_dist}
use Rattle.shapes.proofs.curve.polyline_dist.Given as goal

abbrev pub invariant-loop-ends : goal.invariant-loop-ends
invariant-loop-ends l = record {
  two : windows_size l.ends-iterator ≡ 2;
  left : segments l.p l.least (map (λ c. at c 0) (windows_rest l.ends-iterator)) ≡ polyline_dist l.fn.points l.p;
}
