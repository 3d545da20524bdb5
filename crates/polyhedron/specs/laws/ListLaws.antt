-- What leads from the steps of `contains_list` to its promise: where a question refuses, and where none does.
use Rattle.std.specs.Prelude.{ℕ, ◌+◌, ◌*◌, ◌/◌, ◌%◌, ◌≤◌, ◌<◌, ◌≡◌, true, ◌&&◌, List, eqb, leb, Float, length, get_or, take, set, Result, Err}
use Rattle.std.proofs.Common.{arith, ap, ◌∙◌, take_all, eqb-true, leb-true}
use Rattle.std.proofs.Math.Path.{refl, sym}
use Rattle.std.specs.Float.{nan}
use Rattle.std.proofs.Math.ListN.{length-replicate, get_or-map}
use Rattle.std.proofs.lemmas.List.{length-map}
use Rattle.keys.specs.Sorting.{sorted}
use Rattle.lent.specs.Floats.{F64s}
use Rattle.lent.specs.Over.{over}
use Rattle.lent.specs.laws.OverLaws.{over_nothing, over_take, over_over, over_whole, length_over}
use Rattle.refusal.specs.declared.Refusal.{Refusal}
use Rattle.refusal.specs.declared.Refusal.TheVariants as Refusals
use Rattle.refusal.specs.Verdicts.{Passed, Verdict, written}
use Rattle.refusal.specs.laws.VerdictLaws.{ask_passed, then_passed, both}
use Rattle.math.specs.declared.Vec3.{Vec3}
use Rattle.math.specs.Vectors.{vec, at, points, is_finite}
use Rattle.math.specs.laws.VectorLaws.{length_points, get_d_points}
use Rattle.mesh_questions.specs.Faces.{faces}
use Rattle.mesh_questions.specs.steps.Accepted.{Accepted}
use Rattle.mesh_questions.specs.laws.AcceptedLaws.{finite_of}
use Rattle.mesh.specs.Mesh.{Mesh}
use Rattle.mesh.specs.WorkPlaces.{ask_room, zeros, left_by, work_left}
use Rattle.mesh.specs.laws.WorkLaws.{room_passed}
use Rattle.edges.specs.Edges.{edge_keys}
use Rattle.edges.specs.laws.PairLaws.{length_sorted_keys}
use Rattle.tree.specs.Tree.{Tree}
use Rattle.tree.specs.steps.AcceptedTree.{AcceptedTree}
use Rattle.tree_check.specs.steps.CheckSteps as CheckSteps
use Rattle.tree_check.specs.Check as Check
use Rattle.tree_check.specs.Check.{ask_tree, check_verdict}
use Rattle.scan.specs.Scan.{plain_scan}
use Rattle.polyhedron.specs.PointLists.{list_fits, ask_points, ask_list, list_verdict, answers_to, list_answer, list_work, Contains}
use Rattle.polyhedron.specs.steps.Answerable.{Answerable}

-- ---- the answers

-- there is an answer for each point
pub length_answers_to : (m : Mesh) (list : List Float) → length (answers_to m list) ≡ length list / 3
unfolding answers_to
length_answers_to m list = length-map (points list) (plain_scan m) ∙ length_points list

-- no point
abbrev pub nowhere : Vec3
nowhere = vec nan nan nan

-- answer i is the plain scan's of point i
pub answers_to_at : (m : Mesh) (list : List Float) (i : ℕ) → i < length list / 3 → get_or (answers_to m list) i (plain_scan m nowhere) ≡ plain_scan m (at list (3 * i))
unfolding answers_to
answers_to_at m list i h = get_or-map (plain_scan m) (points list) i nowhere ∙ ap (plain_scan m) (get_d_points list i nowhere h)

-- with the first i answers written, the next is a store at place i
pub answers_next : (m : Mesh) (list : List Float) (old : List ℕ) (i : ℕ) → length old ≡ length list / 3 → i < length list / 3
    → set (over (take i (answers_to m list)) old) i (plain_scan m (at list (3 * i))) ≡ over (take (i + 1) (answers_to m list)) old
answers_next m list old i enough h =
    let long = length_answers_to m list in
    rw (sym (answers_to_at m list i h)) (sym (over_take (answers_to m list) old i (plain_scan m nowhere) (omega arith) (omega arith)))

-- all answers fill the list
pub answers_all : (m : Mesh) (list : List Float) (old : List ℕ) → length old ≡ length list / 3 → over (take (length list / 3) (answers_to m list)) old ≡ answers_to m list
answers_all m list old enough =
    let long = length_answers_to m list in
    rw (take_all (length list / 3) (answers_to m list) (omega arith)) (over_whole (answers_to m list) old (omega arith))

-- ---- the questions

-- questions 8 and 9 pass: there is a place for each answer, and each point is finite
pub list_passed : (list : List Float) (places : ℕ) → ask_list list places ≡ Passed → (places ≡ length list / 3) × ((i : ℕ) → i < length list / 3 → is_finite (at list (3 * i)) ≡ true)
unfolding ask_list list_fits ask_points
list_passed list places e =
    let parts = then_passed _ _ e in
    let fits = both (eqb (length list % 3) 0 && leb (length list / 3) 65536) (eqb places (length list / 3)) (ask_passed _ _ parts.0) in
    (eqb-true places (length list / 3) fits.1, λ i h. rw (get_d_points list i nowhere h) at (finite_of Refusals.Point 0 (points list) i nowhere parts.1 (rw (length_points list) h)))

-- where question 8 passes, the list is short
pub list_short : (list : List Float) (places : ℕ) → list_fits (length list) places ≡ true → length list ≤ 196608
unfolding list_fits
list_short list places e =
    let parts = both (eqb (length list % 3) 0 && leb (length list / 3) 65536) (eqb places (length list / 3)) e in
    let few = both (eqb (length list % 3) 0) (leb (length list / 3) 65536) parts.0 in
    omega (arith, eqb-true (length list % 3) 0 few.0, leb-true (length list / 3) 65536 few.1)

-- a tree accepted is a tree checked
pub checks_of : {m : Mesh} {t : Tree} {work₀ work₁ : List ℕ} {result : Result AcceptedTree Refusal} → CheckSteps.AcceptsTree m t work₀ result work₁ → Check.Checks m t work₀ (check_verdict m t (length work₀)) work₁
checks_of a = record { answer = refl; work = a.work }

module _ {m : Mesh} {t : Tree} {work₀ work₁ : List ℕ} {checked : Verdict} (floats : F64s m.coords) (check : Check.Checks m t work₀ checked work₁) where
  -- a refusal by 1 to 7
  pub refused_tree : (list : List Float) (answers₀ : List ℕ) {refusal : Refusal} → checked ≡ Err refusal → Contains m t list work₀ answers₀ (Err refusal) work₁ answers₀
  unfolding list_verdict list_answer list_work work_left left_by
  refused_tree list answers₀ e =
      let verdict = sym check.answer ∙ e in
      record { floats = floats; answer = rw verdict; answers = rw verdict (unfold written in sym (over_nothing answers₀)); work = rw verdict (rw (sym check.answer ∙ e) at check.work) }

  module _ (passed : checked ≡ Passed) where
    all : check_verdict m t (length work₀) ≡ Passed
    all = sym check.answer ∙ passed

    -- questions 1 to 6 pass
    pub room : ask_room m (length work₀) ≡ Passed
    unfolding check_verdict
    room = (then_passed (ask_room m (length work₀)) (ask_tree m t) all).0

    -- the mesh is accepted
    pub accepted_list : Accepted m.coords m.corners m.ends
    accepted_list = (room_passed m (length work₀) room).0

    -- the work places hold 0, and are as many as they were
    zeros_now : work₁ ≡ over (zeros m) work₀
    unfolding work_left left_by written
    zeros_now = rw (room, all) at check.work

    pub room_left : length m.corners ≤ length work₁
    room_left =
        let enough = (room_passed m (length work₀) room).1 in
        let long = length-replicate {A = ℕ} (length m.corners) 0 in
        rw (zeros_now, length_over (zeros m) work₀ (omega arith)) enough

    -- a refusal by 8 or 9
    pub refused_list : (list : List Float) (answers₀ : List ℕ) {refusal : Refusal} → ask_list list (length answers₀) ≡ Err refusal → Contains m t list work₀ answers₀ (Err refusal) work₁ answers₀
    unfolding list_verdict list_answer list_work work_left left_by
    refused_list list answers₀ e =
        record { floats = floats; answer = rw (all, e); answers = rw (all, e) (unfold written in sym (over_nothing answers₀)); work = rw (all, e) (rw all at check.work) }

    module _ (list : List Float) (answers₀ : List ℕ) (asked : ask_list list (length answers₀) ≡ Passed) where
      -- every point can be answered
      pub answerable : Answerable list (length answers₀)
      answerable =
          let parts = list_passed list (length answers₀) asked in
          record { finite = parts.1; enough = parts.0 }

      -- nothing is refused
      pub answered : {work₂ answers₁ : List ℕ} → work₂ ≡ over (sorted (edge_keys (faces m.corners m.ends))) work₁ → answers₁ ≡ answers_to m list → Contains m t list work₀ answers₀ Passed work₂ answers₁
      unfolding list_verdict list_answer list_work work_left left_by written
      answered {work₂} {answers₁} keys answers =
          let new = answers_to m list in
          let long = length_answers_to m list in
          let places = (list_passed list (length answers₀) asked).0 in
          let sorted_keys = sorted (edge_keys (faces m.corners m.ends)) in
          let corners = length_sorted_keys m.corners m.ends accepted_list.lengths.fit in
          let none = length-replicate {A = ℕ} (length m.corners) 0 in
          record {
            floats = floats;
            answer = rw (all, asked);
            answers = rw (all, asked, answers, over_whole new answers₀ (omega arith));
            work = rw (all, asked, room, keys, zeros_now, over_over sorted_keys (zeros m) work₀ (omega arith));
          }
