-- `headings` meets its contract: the rows of the table are the directions.
use Rattle.std.proofs.Common.{◌≡◌, ◌∙◌, List, [], get_or, map, sym, rules, tests, arith}
use Rattle.std.specs.Prelude.{Float}
use Rattle.std.proofs.Math.ListN.{get_or-map}
use Rattle.std.proofs.lemmas.List.{ext_get_or}
use Rattle.math.specs.Vectors.{at}
use Rattle.scan.specs.Scan.{directions}
use Rattle.walks.specs.declared.ray.Heading.{Heading}
use Rattle.walks.specs.steps.Casts.{row, heading}
use Rattle.walks.proofs.ray.headings.Goals as goal

-- a row's heading
abbrev given : List Float → Heading
given r = heading (at r 0)

pub returns : goal.returns
unfolding directions at
returns c =
    let calls = c.map.ensures.items in
    ext_get_or (given []) c.map.result (map given (map row directions)) calls.long (λ i h.
    let call = (calls.at i [] (given []) (omega (arith, h, calls.long))).2 in
    let one : get_or c.map.result i (given []) ≡ given (get_or (map row directions) i []) = search (rules, tests) in
    one ∙ sym (get_or-map given (map row directions) i []))
