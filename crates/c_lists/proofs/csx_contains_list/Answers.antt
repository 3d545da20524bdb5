-- `csx_contains_list` meets its contract: `contains_list` promises the verdict and the two buffers, and the verdict's number is returned.
use Rattle.std.proofs.Common.{◌∙◌, rules, tests}
use Rattle.refusal.specs.laws.Returned.{number_verdict}
use Rattle.c_lists.proofs.csx_contains_list.Goals as goal

pub returns : goal.returns
returns c =
    let contains = c.contains_list.ensures in
    let number = number_verdict 0 (λ x n given. search (rules, tests)) c.contains_list.result c.map.result c.map.ensures.cases in
    record { answer = c.returned.ensures ∙ rw contains.answer at number; answers = contains.answers; work = contains.work }
