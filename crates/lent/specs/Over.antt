-- What a call leaves in a buffer that it was lent (document 01, Room): what it wrote at the front, and then the rest as it was. Definition only.
use Rattle.std.specs.Prelude.{List, ◌++◌, drop}
use Rattle.std.proofs.Math.ListN.{length}

-- the buffer `old` with `new` written over its front
unfoldable pub over : {A : Type 0} → List A → List A → List A
over new old = new ++ drop (length new) old
