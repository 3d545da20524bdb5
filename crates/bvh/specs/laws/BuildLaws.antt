-- That there is room for the whole tree, and what is written into the lent lists.
use Rattle.std.specs.Prelude.{ℕ, ◌*◌, ◌≤◌, ◌<◌, ◌≡◌, refl, true, List, ◌++◌, Float, get_or, Ok, Err}
use Rattle.std.proofs.Common.{arith, ap, ◌∙◌}
use Rattle.std.proofs.Math.Path.{sym}
use Rattle.std.proofs.Math.ListN.{length, drop}
use Rattle.std.proofs.Math.Seq.{sets}
use borrow.Author.Tests.{leb-true, eq-eqb, ne_eqb}
use Rattle.keys.specs.Sorting.{sorted}
use Rattle.keys.specs.laws.SortingTheorems.{length_sorted}
use Rattle.lent.specs.Over.{over}
use Rattle.lent.specs.laws.OverLaws.{over_nothing, over_stores}
use Rattle.refusal.specs.declared.Refusal.{Refusal}
use Rattle.refusal.specs.declared.Refusal.TheVariants as Refusals
use Rattle.refusal.specs.Verdicts.{Passed, ask, written}
use Rattle.refusal.specs.laws.VerdictLaws.{ask_passed, then_passed, both}
use Rattle.mesh_questions.specs.MeshQuestions.{ask_mesh}
use Rattle.mesh_questions.specs.steps.Accepted.{Accepted}
use Rattle.mesh_questions.specs.laws.AcceptedLaws.{accepted}
use Rattle.mesh.specs.Mesh.{Mesh, triangle_count, numbers}
use Rattle.tree.specs.laws.NumberLaws.{length_numbers, get_d_numbers}
use Rattle.builder.specs.Builder.{BoxTree, tree_over, builder_tree, size, box_list, node_list, item_list, lists, layout}
use Rattle.builder.specs.laws.BuilderLaws.{length_tree_over, length_box_list, length_node_list}
use Rattle.builder.specs.laws.BuilderSize.{size_le, node_count_some, node_count_none}
use Rattle.bvh.specs.declared.subtree.Subtree.{Subtree}
use Rattle.bvh.specs.steps.Subtree.{SubtreeRoom, Writes}
use Rattle.bvh.specs.laws.LeafLaws.{ordered_sorted}
use Rattle.bvh.specs.Build.{tree_room, ask_build, build_verdict, Builds}

-- ---- the whole tree

-- the triangles of an accepted mesh are few
pub few_triangles : {m : Mesh} → Accepted m.coords m.corners m.ends → triangle_count m ≤ 262144
few_triangles {m} a = omega (arith, a.limit)

-- numbers from 0 on are sorted
sorted_numbers : (n : ℕ) → sorted (numbers 0 n) ≡ numbers 0 n
sorted_numbers n = sym (ordered_sorted (numbers 0 n) (numbers 0 n) (λ k. refl) (λ a b from less in_List. ascend a b less (omega (arith, length_numbers 0 n))))
  where
    ascend : (a b : ℕ) → a < b → b < n → get_or (numbers 0 n) a 0 ≤ get_or (numbers 0 n) b 0
    ascend a b less in_List = rw (get_d_numbers 0 n a (omega arith), get_d_numbers 0 n b in_List) (omega arith)

module _ (m : Mesh) (accepted : Accepted m.coords m.corners m.ends) (some : 0 < triangle_count m) where
  abbrev all : List ℕ
  all = numbers 0 (triangle_count m)

  size_all : size (tree_over m (sorted all)) ≤ triangle_count m
  size_all = omega (arith, size_le m (sorted all) (omega (arith, some, length_sorted all, length_numbers 0 (triangle_count m))), length_sorted all, length_numbers 0 (triangle_count m))

  -- there is room for it in lists of six floats and two node numbers a triangle
  pub whole_room : (boxes nodes : ℕ) → 6 * triangle_count m ≤ boxes → 2 * triangle_count m ≤ nodes → SubtreeRoom m boxes nodes all 0 0
  whole_room boxes nodes for_boxes for_nodes =
      let few = few_triangles accepted in
      let count = length_numbers 0 (triangle_count m) in
      record {
        given = λ j h. below j (omega arith);
        some = omega (arith, some);
        for_boxes = omega (arith, size_all, for_boxes);
        for_nodes = omega (arith, size_all, for_nodes);
        few_nodes = omega (arith, size_all);
        few_items = omega arith;
      }
    where
      below : (j : ℕ) → j < triangle_count m → get_or all j 0 < triangle_count m
      below j less = rw (get_d_numbers 0 (triangle_count m) j less) (omega arith)

-- ---- the public entry

items_written : (tree : BoxTree) (n : ℕ) (items : List ℕ) → length (item_list tree) ≡ n → item_list tree ++ drop n items ≡ over (item_list tree) items
unfolding over
items_written tree n items long = rw long

module _ (m : Mesh) (boxes₀ : List Float) (nodes₀ items₀ : List ℕ) where
  -- a refused call
  pub builds_refused : (refusal : Refusal) → build_verdict m boxes₀ nodes₀ items₀ ≡ Err refusal → Builds m boxes₀ nodes₀ items₀ (Err refusal) boxes₀ nodes₀ items₀
  unfolding written
  builds_refused refusal e =
      record { answer = rw e; boxes = rw e (sym (over_nothing boxes₀)); nodes = rw e (sym (over_nothing nodes₀)); items = rw e (sym (over_nothing items₀)) }

  module _ (passed : build_verdict m boxes₀ nodes₀ items₀ ≡ Passed) where
    pub accepted_mesh : Accepted m.coords m.corners m.ends
    unfolding ask_build
    accepted_mesh = accepted _ _ _ (then_passed _ _ passed).0

    room_passed : tree_room (triangle_count m) (length boxes₀) (length nodes₀) (length items₀) ≡ true
    unfolding ask_build
    room_passed =
        let enough = tree_room (triangle_count m) (length boxes₀) (length nodes₀) (length items₀) in
        ask_passed enough Refusals.Room (then_passed (ask_mesh m.coords m.corners m.ends) (ask enough Refusals.Room) passed).1

    pub rooms : (6 * triangle_count m ≤ length boxes₀) × (2 * triangle_count m ≤ length nodes₀) × (triangle_count m ≤ length items₀)
    unfolding tree_room
    rooms =
        let parts = both _ _ room_passed in
        let first = both _ _ parts.0 in
        (leb-true _ _ first.0, leb-true _ _ first.1, leb-true _ _ parts.1)

    -- no triangles: no nodes
    pub builds_none : triangle_count m ≡ 0 → Builds m boxes₀ nodes₀ items₀ (Ok 0) boxes₀ nodes₀ items₀
    unfolding written layout
    builds_none none =
        record {
          answer = rw (passed, node_count_none m none);
          boxes = rw (passed, eq-eqb (triangle_count m) 0 none) (sym (over_nothing boxes₀));
          nodes = rw (passed, eq-eqb (triangle_count m) 0 none) (sym (over_nothing nodes₀));
          items = rw (passed, eq-eqb (triangle_count m) 0 none) (sym (over_nothing items₀));
        }

    module _ (some : 0 < triangle_count m) where
      -- the room for all triangles
      pub builds_room : SubtreeRoom m (length boxes₀) (length nodes₀) (numbers 0 (triangle_count m)) 0 0
      builds_room = whole_room m accepted_mesh some (length boxes₀) (length nodes₀) rooms.0 rooms.1

      layout_lists : layout m ≡ lists (tree_over m (numbers 0 (triangle_count m)))
      unfolding layout builder_tree
      layout_lists = rw (ne_eqb (triangle_count m) 0 (λ none. omega arith))

      -- the tree that was written
      pub builds_all : (result : Subtree) (boxes₁ : List Float) (nodes₁ items₁ : List ℕ) → Writes m boxes₀ nodes₀ (numbers 0 (triangle_count m)) 0 0 result boxes₁ nodes₁ items₁
          → Builds m boxes₀ nodes₀ items₀ (Ok result.end) boxes₁ nodes₁ (items₁ ++ drop (triangle_count m) items₀)
      unfolding written lists
      builds_all result boxes₁ nodes₁ items₁ w =
          let all = numbers 0 (triangle_count m) in
          let same = sorted_numbers (triangle_count m) in
          let tree = tree_over m all in
          let fits : size tree ≤ triangle_count m = rw same at (size_all m accepted_mesh some) in
          let long : length (item_list tree) ≡ triangle_count m = length_tree_over m all ∙ length_numbers 0 (triangle_count m) in
          let boxes : sets boxes₀ 0 (box_list tree) ≡ over (box_list tree) boxes₀ = sym (over_stores 0 boxes₀ (box_list tree) (omega (arith, length_box_list tree, rooms.0))) in
          let nodes : sets nodes₀ 0 (node_list 0 0 tree) ≡ over (node_list 0 0 tree) nodes₀ = sym (over_stores 0 nodes₀ (node_list 0 0 tree) (omega (arith, length_node_list 0 0 tree, rooms.1))) in
          let whole : item_list tree ++ drop (triangle_count m) items₀ ≡ over (item_list tree) items₀ = items_written tree (triangle_count m) items₀ long in
          record {
            answer = rw (passed, w.end, same, node_count_some m some) (ap Ok (omega arith));
            boxes = rw (passed, layout_lists) (w.boxes ∙ rw same boxes);
            nodes = rw (passed, layout_lists) (w.nodes ∙ rw same nodes);
            items = rw (passed, layout_lists, w.items, same) whole;
          }
