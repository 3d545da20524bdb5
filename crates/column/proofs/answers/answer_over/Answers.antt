-- `answer_over` meets its contract: the builder does not refuse, its tree is the front of the lists, and the answers over it are the plain scan's.
use native.Mathlib.Omega.{arith}
use mathlib.Core.Path.{refl, ap}
use lib.ListN.{length, length-take}
use Rattle.mesh.specs.Mesh.{Mesh}
use Rattle.column.specs.laws.AnswerLaws.{not_refused, few_nodes, boxes_found, node_numbers_found, items_found, answers_found}
use Rattle.column.proofs.answers.answer_over.Goals as goal

pub overflow_mul-tree : goal.overflow_mul-tree
overflow_mul-tree c = omega (arith, few_nodes c.requires.0 (length c.args.work.now) c.requires.1 c.build.ensures c.in-Ok.n c.in-Ok.is)

pub slice_bounds-tree-end : goal.slice_bounds-tree-end
slice_bounds-tree-end c = (boxes_found c.requires.0 (length c.args.work.now) c.requires.1 c.build.ensures c.in-Ok.n c.in-Ok.is).0

pub slice_bounds-tree-end-in-Ok : goal.slice_bounds-tree-end-in-Ok
slice_bounds-tree-end-in-Ok c = simp length-take (omega (arith, (boxes_found c.requires.0 (length c.args.work.now) c.requires.1 c.build.ensures c.in-Ok.n c.in-Ok.is).0))

pub overflow_mul-tree-in-Ok : goal.overflow_mul-tree-in-Ok
overflow_mul-tree-in-Ok c = omega (arith, few_nodes c.requires.0 (length c.args.work.now) c.requires.1 c.build.ensures c.in-Ok.n c.in-Ok.is)

pub slice_bounds-tree-end-in-Ok-2 : goal.slice_bounds-tree-end-in-Ok-2
slice_bounds-tree-end-in-Ok-2 c = (node_numbers_found c.requires.0 (length c.args.work.now) c.requires.1 c.build.ensures c.in-Ok.n c.in-Ok.is).0

pub slice_bounds-tree-end-in-Ok-3 : goal.slice_bounds-tree-end-in-Ok-3
slice_bounds-tree-end-in-Ok-3 c = simp length-take (omega (arith, (node_numbers_found c.requires.0 (length c.args.work.now) c.requires.1 c.build.ensures c.in-Ok.n c.in-Ok.is).0))

pub slice_bounds-tree-end-in-Ok-5 : goal.slice_bounds-tree-end-in-Ok-5
slice_bounds-tree-end-in-Ok-5 c =
    let ends = ap (λ (m : Mesh). length m.ends) c.mesh.view_is in
    simp length-take (omega (arith, ends, (items_found c.requires.0 (length c.args.work.now) c.requires.1 c.build.ensures c.in-Ok.n c.in-Ok.is).0))

pub returns-in-Ok : goal.returns-in-Ok
returns-in-Ok c =
    let ends = ap (λ (m : Mesh). length m.ends) c.mesh.view_is in
    answers_found c.requires.0 (length c.args.work.now) c.requires.1 c.build.ensures c.in-Ok.n c.in-Ok.is refl refl (rw ends at c.contains_list.ensures)

pub returns-in_default : goal.returns-in_default
returns-in_default c = not_refused c.requires.0 (length c.args.work.now) c.requires.1 c.build.ensures _ c.in_default.is
