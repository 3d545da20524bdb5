-- `point_in_polygon` meets its contract. The invariant: from this pair on, with the vertex before it and the answer so far, the walk
-- round the polygon gives the polygon's answer.
use Prim.Native.Nat.{◌*◌}
use mathlib.Core.Path.{◌≡◌}
use lib.ListN.{drop}
use Rattle.geom.specs.Polygons.{points2, around, point_in_polygon}
use Rattle.geom.proofs.point_in_polygon.Given as goal

abbrev pub invariant-loop-pair : goal.invariant-loop-pair
invariant-loop-pair l = around l.p l.eps l.j l.inside (points2 (drop (2 * l.pair-index) l.poly)) ≡ point_in_polygon l.p l.poly
