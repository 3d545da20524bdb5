-- The theorem that the check accepts exactly the trees that keep the tree rules.
use Rattle.std.specs.Prelude.{ℕ, ◌≡◌}
use Rattle.refusal.specs.Verdicts.{Passed}
use Rattle.refusal.specs.laws.VerdictLaws.{ask_passed, then_passed}
use Rattle.mesh.specs.Mesh.{Mesh}
use Rattle.mesh.specs.WorkPlaces.{ask_room}
use Rattle.tree.specs.Tree.{Tree}
use Rattle.tree.specs.TreeRules.{TreeRules}
use Rattle.tree.specs.laws.TreeTheorem.{sound, complete}
use Rattle.tree_check.specs.Check.{ask_tree, check_verdict}

-- where 1 to 6 refuse nothing, the check accepts a tree if and only if it keeps the tree rules
pub check_accepts : (m : Mesh) (t : Tree) (work : ℕ) → ask_room m work ≡ Passed
    → (check_verdict m t work ≡ Passed → TreeRules m t) × (TreeRules m t → check_verdict m t work ≡ Passed)
unfolding check_verdict ask_tree
check_accepts m t work e =
    (λ h. sound m t (ask_passed _ _ (then_passed (ask_room m work) (ask_tree m t) h).1), λ rules. rw (e, complete m t rules))
