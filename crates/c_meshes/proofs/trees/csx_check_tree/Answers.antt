-- `csx_check_tree` meets its contract: `check_tree` promises the verdict and the work places, and the verdict's number is returned.
use Rattle.std.proofs.Common.{◌∙◌, rules, tests}
use Rattle.refusal.specs.laws.Returned.{number_verdict}
use Rattle.c_meshes.proofs.trees.csx_check_tree.Goals as goal

pub returns : goal.returns
returns c =
    let w = c.check_tree.ensures in
    let number = number_verdict 0 (λ x n given. search (rules, tests)) c.check_tree.result c.map.result c.map.ensures.cases in
    record { answer = c.returned.ensures ∙ rw w.answer at number; work = w.work }
