-- Demand 3 holds. (a) A rewriting is accepted, and the plain scan answers it as it answers the mesh; where no question refuses, a list's answers are the plain
-- scan's of each point. (b) is the tree check's theorem. (c) Where no question refuses, what the builder promises is the layout, which keeps the tree rules.
use Rattle.std.specs.Prelude.{ℕ, ◌≡◌, List, Float, length}
use Rattle.std.proofs.Common.{arith, sym, ◌∙◌}
use Rattle.std.proofs.Math.Path.{fun_ext}
use Rattle.lent.specs.laws.OverLaws.{over_whole}
use Rattle.refusal.specs.Verdicts.{Passed, Verdict, written}
use Rattle.refusal.specs.laws.VerdictLaws.{then_passed}
use Rattle.mesh_questions.specs.laws.AcceptedLaws.{accepted}
use Rattle.mesh.specs.Mesh.{Mesh}
use Rattle.tree.specs.Tree.{Tree}
use Rattle.tree_check.specs.Check.{check_verdict}
use Rattle.tree_check.specs.laws.CheckLaws.{check_accepts}
use Rattle.bvh.specs.Build.{ask_build}
use Rattle.builder.specs.laws.BuilderTheorem.{layout_rules}
use Rattle.polyhedron.specs.PointLists.{ask_list, list_verdict, answers_to, list_answer, Contains}
use Rattle.polyhedron.specs.Rewritten.{Rewritten}
use Rattle.polyhedron.specs.Demand3.{IsAccepted, Demand3}
use Rattle.polyhedron.specs.laws.RewrittenAccepted.{rewritten_accepted}
use Rattle.polyhedron.specs.laws.ListLaws.{length_answers_to, list_passed}
use Rattle.polyhedron.specs.laws.RewrittenScan.{floats_rewritten, plain_scan_rewritten}

-- what `contains_list` answers for a rewriting
answers_rewritten : {m m' : Mesh} → IsAccepted m → Rewritten m m' → (t : Tree) (list : List Float) (work₀ answers₀ : List ℕ) (result : Verdict) (work₁ answers₁ : List ℕ)
    → Contains m' t list work₀ answers₀ result work₁ answers₁
    → check_verdict m' t (length work₀) ≡ Passed
    → ask_list list (length answers₀) ≡ Passed
    → (result ≡ Passed) × (answers₁ ≡ answers_to m list)
unfolding list_verdict answers_to list_answer written
answers_rewritten {m} a r t list work₀ answers₀ result work₁ answers₁ c tree asked =
    let same = fun_ext (plain_scan_rewritten (floats_rewritten a r c.floats) a r) in
    let long = length_answers_to m list in
    let enough = (list_passed list (length answers₀) asked).0 in
    (rw (tree, asked) at c.answer, (rw (tree, asked, same) at c.answers) ∙ over_whole (answers_to m list) answers₀ (omega (arith, long, enough)))

-- demand 3, whole
pub demand3 : Demand3
unfolding written ask_build
demand3 =
    record {
      answers = λ m m' a r. (rewritten_accepted a r, answers_rewritten a r);
      check = λ m t work₀ result work₁ c room. (
        λ e. (check_accepts m t (length work₀) room).0 (sym c.answer ∙ e),
        λ rules. c.answer ∙ (check_accepts m t (length work₀) room).1 rules,
      );
      builder = λ m boxes₀ nodes₀ items₀ result boxes₁ nodes₁ items₁ b passed. (
        rw passed at b.answer,
        rw passed at b.boxes,
        rw passed at b.nodes,
        rw passed at b.items,
        layout_rules m (accepted _ _ _ (then_passed _ _ passed).0),
      );
    }
