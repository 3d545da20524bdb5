-- `weld_all` meets its contract. The invariant: the triangles so far are welded (`Done`).
use Rattle.weld.proofs.Walk.{Done}
use Rattle.weld.proofs.weld_all.Given as goal

abbrev pub invariant-loop-triangle : goal.invariant-loop-triangle
invariant-loop-triangle l =
    Done l.triangles l.initial.coords l.initial.corners l.initial.ends l.triangle-index l.coords l.corners l.ends l.counts.vertices l.counts.faces
