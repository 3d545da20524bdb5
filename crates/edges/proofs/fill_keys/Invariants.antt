-- `fill_keys` meets its contract. The invariant (`Filled`): what was written and the keys of the faces that are left are the keys of all faces,
-- and the ends that are left fit. A turn writes one face's keys on.
use Rattle.edges.proofs.Filling.{Filled}
use Rattle.edges.proofs.fill_keys.Given as goal

abbrev pub invariant-loop-end : goal.invariant-loop-end
invariant-loop-end l = Filled l.corners l.ends l.initial.work l.start l.end-index l.work
