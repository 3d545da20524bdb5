-- `csx_build_tree` meets its contract: `build` promises its answer and the buffers, and the number that stands for the answer is returned.
use Rattle.std.proofs.Common.{◌∙◌, rules, tests}
use Rattle.refusal.specs.laws.Returned.{number_answered}
use Rattle.c_meshes.proofs.trees.csx_build_tree.Goals as goal

pub returns : goal.returns
returns c =
    let w = c.build.ensures in
    let number = number_answered (λ count. count) (λ x n given. search (rules, tests)) _ _ c.build.result c.map.result w.answer c.map.ensures.cases in
    record { answer = c.returned.ensures ∙ number; boxes = w.boxes; nodes = w.nodes; items = w.items }
