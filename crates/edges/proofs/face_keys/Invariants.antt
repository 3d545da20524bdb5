-- `face_keys` meets its contract. The invariant: the keys so far are written over the front of the buffer.
use Rattle.std.proofs.Common.{◌≡◌, take}
use Rattle.lent.specs.Over.{over}
use Rattle.edges.specs.Edges.{face_keys}
use Rattle.edges.proofs.face_keys.Given as goal

abbrev pub invariant-loop-i : goal.invariant-loop-i
invariant-loop-i l = l.work ≡ over (take l.i (face_keys l.face)) l.initial.work
