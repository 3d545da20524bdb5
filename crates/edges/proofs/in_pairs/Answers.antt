use Rattle.std.proofs.Common.{arith}
use Rattle.std.proofs.lemmas.Bool.Decides.{nat_tests}
use Rattle.edges.proofs.Pairing.{in_pairs_two, first_is}
use Rattle.edges.proofs.in_pairs.Goals as goal
use Rattle.edges.proofs.in_pairs.Goals.{then-first-second-via-then-first-second, then-first-second-via-else-first-second+then-eq}

pub returns-then-first-second : goal.returns-then-first-second
returns-then-first-second c =
    let two = in_pairs_two c.loop-rest.rest.now c.in-len2-up.len_at_least in
    elim c.then-first-second.branch [
      | then-first-second-via-then-first-second w ↦ grind (arith, nat_tests, two)
      | then-first-second-via-else-first-second+then-eq w ↦ grind (arith, nat_tests, two, first_is _ _ _ _ w.first.ensures.value w.eq.ensures)
    ]

pub loop-rest-preserved : goal.loop-rest-preserved
loop-rest-preserved c =
    let two = in_pairs_two c.loop-rest.rest.now c.in-len2-up.len_at_least in
    grind (arith, nat_tests, two, first_is _ _ _ _ c.first.ensures.value c.eq.ensures)
