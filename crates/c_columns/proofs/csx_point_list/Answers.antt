-- `csx_point_list` meets its contract: `point_list` promises the listing and its bytes or the refusal, and the number of that is returned.
use Rattle.std.proofs.Common.{◌∙◌, rules, tests}
use Rattle.refusal.specs.laws.Returned.{number_answered}
use Rattle.c_columns.proofs.csx_point_list.Goals as goal

pub returns : goal.returns
returns c =
    let lists = c.point_list.ensures in
    let number = number_answered (λ bytes. bytes) (λ x n given. search (rules, tests)) _ _ c.point_list.result c.map.result lists.answer c.map.ensures.cases in
    record { answer = c.returned.ensures ∙ number; listing = lists.listing }
