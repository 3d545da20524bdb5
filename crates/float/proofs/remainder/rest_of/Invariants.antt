-- So far the rest is that of the digits that were taken.
use Rattle.std.proofs.Common.{◌≡◌, ◌*◌, ◌%◌, ◌^◌, ◌<◌}
use Rattle.float.proofs.remainder.rest_of.Given as goal

abbrev pub invariant-loop : goal.invariant-loop
invariant-loop l = record { below : l.r < l.n; rest : l.r ≡ l.m * 2 ^ l.counter % l.n }
