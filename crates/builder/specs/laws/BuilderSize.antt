-- How many nodes the builder makes: never more than triangles (document 01, Room), and the starred cases of 4 and 5 triangles
-- (document 01, Edges of the rules).
use Rattle.std.specs.Prelude.{ℕ, zero, suc, ◌+◌, ◌≤◌, ◌<◌, ◌≡◌, List, length}
use Rattle.std.proofs.Common.{arith, ◌∙◌, ⊎_elim, eq-eqb, ne_eqb}
use Rattle.keys.specs.laws.SortingTheorems.{le_or_lt}
use Rattle.mesh.specs.Mesh.{Mesh, triangle_count, numbers}
use Rattle.tree.specs.Tree.{node_count}
use Rattle.builder.specs.Builder.{left_items, right_items, tree_over, builder_tree, size, lists, layout}
use Rattle.tree.specs.laws.NumberLaws.{length_numbers}
use Rattle.builder.specs.laws.BuilderLaws.{length_left, length_right, tree_over_leaf, tree_over_inner, length_node_list}

module _ (m : Mesh) where
  size_leaf : (items : List ℕ) → length items ≤ 4 → size (tree_over m items) ≡ 1
  unfolding size
  size_leaf items few = rw (tree_over_leaf m items few)

  size_inner : (items : List ℕ) → 4 < length items → size (tree_over m items) ≡ 1 + size (tree_over m (left_items m items)) + size (tree_over m (right_items m items))
  unfolding size
  size_inner items many = rw (tree_over_inner m items many)

  -- two items or more make fewer nodes than items
  size_below : (bound : ℕ) (items : List ℕ) → length items ≤ bound → 2 ≤ length items → size (tree_over m items) < length items
  size_below zero items most two = absurd (omega arith)
  size_below (suc bound) items most two =
      let left = length_left m items in
      let right = length_right m items in
      ⊎_elim
      (λ few. omega (arith, size_leaf items few))
      (λ many. omega (arith, size_inner items many, size_below bound (left_items m items) (omega arith) (omega arith), size_below bound (right_items m items) (omega arith) (omega arith)))
      (le_or_lt (length items) 4)

  pub size_le : (items : List ℕ) → 1 ≤ length items → size (tree_over m items) ≤ length items
  size_le items some =
      ⊎_elim
      (λ few. omega (arith, size_leaf items few))
      (λ many. omega (arith, size_below (length items) items (omega arith) (omega arith)))
      (le_or_lt (length items) 4)

  -- the nodes of the lent lists
  pub node_count_some : 0 < triangle_count m → node_count (layout m) ≡ size (tree_over m (numbers 0 (triangle_count m)))
  unfolding node_count layout lists builder_tree
  node_count_some some =
      let b = tree_over m (numbers 0 (triangle_count m)) in
      rw (ne_eqb (triangle_count m) 0 (λ none. omega arith)) (omega (arith, length_node_list 0 0 b))

  pub node_count_none : triangle_count m ≡ 0 → node_count (layout m) ≡ 0
  unfolding node_count layout
  node_count_none none = rw (eq-eqb (triangle_count m) 0 none)

  -- there are never more nodes than triangles
  pub node_count_le : node_count (layout m) ≤ triangle_count m
  node_count_le =
      let all = numbers 0 (triangle_count m) in
      let long = length_numbers 0 (triangle_count m) in
      ⊎_elim
      (λ none. omega (arith, node_count_none (omega arith)))
      (λ some. omega (arith, node_count_some some, size_le all (omega arith)))
      (le_or_lt (triangle_count m) 0)

  -- four triangles make one node
  pub four_triangles : triangle_count m ≡ 4 → node_count (layout m) ≡ 1
  four_triangles four =
      let all = numbers 0 (triangle_count m) in
      let long = length_numbers 0 (triangle_count m) in
      node_count_some (omega arith) ∙ size_leaf all (omega arith)

  -- five triangles make three nodes
  pub five_triangles : triangle_count m ≡ 5 → node_count (layout m) ≡ 3
  five_triangles five =
      let all = numbers 0 (triangle_count m) in
      let long = length_numbers 0 (triangle_count m) in
      let left = length_left m all in
      let right = length_right m all in
      omega (arith, node_count_some (omega arith), size_inner all (omega arith), size_leaf (left_items m all) (omega arith), size_leaf (right_items m all) (omega arith))
