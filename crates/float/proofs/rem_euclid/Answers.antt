-- Written out, so that a wrong `rem_euclid` is refused at once.
use Rattle.std.specs.Prelude.{◌≡◌, true}
use Rattle.std.specs.Float.Ieee.{of_bits, lt}
use Rattle.float.specs.Rules.{zero64, rem_euclid}
use Rattle.float.proofs.rem_euclid.Goals as goal

pub returns-then-r : goal.returns-then-r
unfolding of_bits rem_euclid
returns-then-r c =
    let low : lt c.remainder-r.result zero64 ≡ true = c.if-r.true in
    rw (c.abs.ensures, ← c.remainder-r.ensures, low)
