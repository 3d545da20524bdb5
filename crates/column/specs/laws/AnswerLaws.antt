-- What leads from the builder's and the list answer's promises to the answers of a small mesh: neither refuses, and the tree is the builder rule's.
use Rattle.std.specs.Prelude.{ℕ, ◌*◌, ◌≤◌, ◌≡◌, Result, Ok, Err, List, Float, length, take}
use Rattle.std.proofs.Common.{arith, sym, ◌∙◌}
use borrow.Author.Tests.{le-leb}
use Rattle.lent.specs.Over.{over}
use Rattle.lent.specs.laws.OverLaws.{over_whole, take_over, length_over}
use Rattle.refusal.specs.declared.Refusal.{Refusal}
use Rattle.refusal.specs.Verdicts.{Passed, Verdict, written}
use Rattle.mesh.specs.Mesh.{Mesh, triangle_count}
use Rattle.tree.specs.Tree.{tree, node_count}
use Rattle.tree.specs.TreeRules.{TreeRules}
use Rattle.mesh.specs.WorkPlaces.{ask_room}
use Rattle.tree_check.specs.laws.CheckLaws.{check_accepts}
use Rattle.bvh.specs.Build as Build
use Rattle.bvh.specs.Build.{tree_room, ask_build}
use Rattle.builder.specs.Builder.{layout}
use Rattle.builder.specs.laws.BuilderSize.{node_count_le}
use Rattle.polyhedron.specs.PointLists.{ask_list, list_verdict, answers_to, list_answer, Contains}
use Rattle.polyhedron.specs.laws.ListLaws.{length_answers_to, list_passed}
use Rattle.polyhedron.specs.laws.Demand3Theorem.{demand3}
use Rattle.column.specs.steps.Answers.{Small, Scratch}

module _ {m : Mesh} {points : List Float} {places : ℕ} (small : Small m points places) where
  -- a triangle a face, and few of them
  pub triangles : (triangle_count m ≡ length m.ends) × (triangle_count m ≤ 512)
  triangles =
      let ends = small.few.ends in
      let corners = small.few.corners in
      (omega (arith, ends), omega (arith, ends, corners))

  module _ {boxes₀ : List Float} {nodes₀ items₀ : List ℕ} {result : Result ℕ Refusal} {boxes₁ : List Float} {nodes₁ items₁ : List ℕ} (work : ℕ)
      (scratch : Scratch (length boxes₀) (length nodes₀) (length items₀) work)
      (built : Build.Builds m boxes₀ nodes₀ items₀ result boxes₁ nodes₁ items₁) where
    -- questions 1 to 6 of the builder pass
    passes : Build.build_verdict m boxes₀ nodes₀ items₀ ≡ Passed
    unfolding ask_build tree_room
    passes =
        let few = triangles.1 in
        let boxes = le-leb (6 * triangle_count m) (length boxes₀) (omega (arith, few, scratch.for_boxes)) in
        let nodes = le-leb (2 * triangle_count m) (length nodes₀) (omega (arith, few, scratch.for_nodes)) in
        let items = le-leb (triangle_count m) (length items₀) (omega (arith, few, scratch.for_items)) in
        rw (small.accepted, boxes, nodes, items)

    found : (result ≡ Ok (node_count (layout m)))
        × (boxes₁ ≡ over (layout m).boxes boxes₀)
        × (nodes₁ ≡ over (layout m).nodes nodes₀)
        × (items₁ ≡ over (layout m).items items₀)
        × TreeRules m (layout m)
    found = demand3.builder m boxes₀ nodes₀ items₀ result boxes₁ nodes₁ items₁ built passes

    -- the builder does not refuse
    pub not_refused : (refusal : Refusal) → result ≡ Err refusal → {A : Type 0} → A
    not_refused refusal e {A} =
        let nodes = sym e ∙ found.0 in
        let wrong : ◌≡◌ {A = ℕ} 0 1 = cc in
        absurd (omega (arith, wrong))

    module _ (n : ℕ) (e : result ≡ Ok n) where
      pub nodes_found : n ≡ node_count (layout m)
      nodes_found = let same = sym e ∙ found.0 in cc

      pub few_nodes : n ≤ 512
      few_nodes = omega (arith, nodes_found, node_count_le m, triangles.1)

      -- the front of each list is that of the builder rule's tree
      pub boxes_found : (6 * n ≤ length boxes₁) × (take (6 * n) boxes₁ ≡ (layout m).boxes)
      boxes_found =
          let long : length (layout m).boxes ≡ 6 * n = omega (arith, found.4.boxes, nodes_found) in
          let same = length_over (layout m).boxes boxes₀ (omega (arith, long, few_nodes, scratch.for_boxes)) in
          rw found.1 (omega (arith, same, few_nodes, scratch.for_boxes), take_over (layout m).boxes boxes₀ (6 * n) long)

      pub node_numbers_found : (2 * n ≤ length nodes₁) × (take (2 * n) nodes₁ ≡ (layout m).nodes)
      node_numbers_found =
          let long : length (layout m).nodes ≡ 2 * n = omega (arith, found.4.nodes, nodes_found) in
          let same = length_over (layout m).nodes nodes₀ (omega (arith, long, few_nodes, scratch.for_nodes)) in
          rw found.2 (omega (arith, same, few_nodes, scratch.for_nodes), take_over (layout m).nodes nodes₀ (2 * n) long)

      pub items_found : (length m.ends ≤ length items₁) × (take (length m.ends) items₁ ≡ (layout m).items)
      items_found =
          let long : length (layout m).items ≡ length m.ends = omega (arith, found.4.items, triangles.0) in
          let few : length m.ends ≤ 512 = omega (arith, triangles.0, triangles.1) in
          let same = length_over (layout m).items items₀ (omega (arith, long, few, scratch.for_items)) in
          rw found.3 (omega (arith, same, few, scratch.for_items), take_over (layout m).items items₀ (length m.ends) long)

      -- the answers over it are the plain scan's
      pub answers_found : {work₀ answers₀ work₁ answers₁ : List ℕ} {verdict : Verdict} → length work₀ ≡ work → length answers₀ ≡ places
          → Contains m (tree (take (6 * n) boxes₁) (take (2 * n) nodes₁) (take (length m.ends) items₁)) points work₀ answers₀ verdict work₁ answers₁
          → answers₁ ≡ answers_to m points
      unfolding ask_room list_verdict list_answer written
      answers_found {work₀} {answers₀} w p contains =
          let corners = small.few.corners in
          let enough = le-leb (length m.corners) (length work₀) (omega (arith, corners, scratch.for_work, w)) in
          let room : ask_room m (length work₀) ≡ Passed = rw (small.accepted, enough) in
          let checked = (check_accepts m (layout m) (length work₀) room).1 found.4 in
          let asked : ask_list points (length answers₀) ≡ Passed = rw p small.few.list in
          let long = length_answers_to m points in
          let enough = (list_passed points (length answers₀) asked).0 in
          let written = rw (boxes_found.1, node_numbers_found.1, items_found.1, checked, asked) at contains.answers in
          written ∙ over_whole (answers_to m points) answers₀ (omega (arith, long, enough))
