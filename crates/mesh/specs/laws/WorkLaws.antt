-- What questions 1 to 6 say where they pass, and what a call leaves whose pass leaves zeros.
use Rattle.std.specs.Prelude.{ℕ, ◌≤◌, ◌≡◌, refl, true, length, Ok, Err}
use Rattle.std.proofs.Common.{leb-true}
use Rattle.refusal.specs.Verdicts.{Passed, Verdict}
use Rattle.refusal.specs.laws.VerdictLaws.{ask_passed, then_passed}
use Rattle.mesh_questions.specs.steps.Accepted.{Accepted}
use Rattle.mesh_questions.specs.laws.AcceptedLaws.{accepted}
use Rattle.mesh.specs.Mesh.{Mesh}
use Rattle.mesh.specs.WorkPlaces.{ask_room, zeros, left_by}

-- the mesh is accepted, and there is a work place for each corner
pub room_passed : (m : Mesh) (work : ℕ) → ask_room m work ≡ Passed → Accepted m.coords m.corners m.ends × (length m.corners ≤ work)
unfolding ask_room
room_passed m work e =
    let parts = then_passed _ _ e in
    (accepted _ _ _ parts.0, leb-true _ _ (ask_passed _ _ parts.1))

-- where a tree is lent and a call that passes leaves zeros, a refused one does too
pub zeros_left : (m : Mesh) (verdict : Verdict) → left_by true m verdict (zeros m) ≡ zeros m
unfolding left_by
zeros_left m (Ok passed) = refl
zeros_left m (Err refusal) = refl
