-- The check accepts what the builder wrote.
use Rattle.std.specs.Prelude.{ℕ, ◌≡◌}
use Rattle.refusal.specs.Verdicts.{Passed}
use Rattle.mesh.specs.Mesh.{Mesh}
use Rattle.builder.specs.Builder.{layout}
use Rattle.builder.specs.laws.BuilderTheorem.{layout_rules}
use Rattle.mesh.specs.WorkPlaces.{ask_room}
use Rattle.mesh.specs.laws.WorkLaws.{room_passed}
use Rattle.tree_check.specs.Check.{check_verdict}
use Rattle.tree_check.specs.laws.CheckLaws.{check_accepts}

-- where 1 to 6 refuse nothing, the layout of the builder rule's tree is accepted
pub built_accepted : (m : Mesh) (work : ℕ) → ask_room m work ≡ Passed → check_verdict m (layout m) work ≡ Passed
built_accepted m work e = (check_accepts m (layout m) work e).1 (layout_rules m (room_passed m work e).0)
