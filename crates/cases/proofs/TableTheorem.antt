-- Every row of the table holds: one computed test over all rows, and the law that turns it into each row.
use Rattle.std.specs.Prelude.{ℕ, zero, suc, ◌<◌, ◌≡◌, refl, true, List, [], ◌∷◌, eqb, length, get_or}
use Rattle.std.proofs.Common.{arith, sym, true≢false, eqb-true}
use Rattle.refusal.specs.laws.VerdictLaws.{both}
use Rattle.std.specs.Float.Ieee.{to_bits, of_bits, le, lt, ne, eq, add, sub, mul}
use Rattle.float.specs.Rules as Rules
use Rattle.sqrt.specs.Root.{root}
use Rattle.float.specs.TotalOrder.{order_key, key_of}
use Rattle.math.specs.Vectors as Vectors
use Rattle.geom.specs.Tolerance.{tol_of, tol, between, in_range, scale, scale_from}
use Rattle.geom.specs.Polygons.{points2, in_polygon, point_in_polygon}
use Rattle.shapes.specs.Round.{inside_sphere, axial, in_cylinder, inside_cylinder}
use Rattle.shapes.specs.Polylines.{dist_from, polyline_dist, inside_wire}
use Rattle.shapes.specs.Planes.{plane_axes, inside_prism, inside_polygon}
use Rattle.shapes.specs.Shapes.{inside}
use Rattle.primitives.specs.ShapeQuestions.{shape_answer, shape_verdict, whole, whole_entries, finite_numbers, finite_point, all_finite}
use Rattle.keys.specs.Sorting.{sorted_by, insert_by}
use Rattle.edges.specs.Edges.{edges_from, face_edges, edges, same_edge, uses, all_twice, closed}
use Rattle.tree.specs.Tree.{node_count}
use Rattle.builder.specs.Builder.{layout, lists, builder_tree, tree_over, build, size, node_list, left_items, right_items, by_center, split_axis, wider, spread, highest, lowest, center_key, center_on, center_of, join_all, node_box, box_list, item_list}
use Rattle.mesh.specs.Mesh.{numbers, own_box}
use Rattle.mesh.specs.Triangles.{triangles, fans, fan, fan_from}
use Rattle.mesh_questions.specs.Faces.{faces, faces_from}
use Rattle.mesh.specs.MeshBoxes.{triangle_center, triangle_box, vertex}
use Rattle.math.specs.BoundingBoxes as BoundingBoxes
use Rattle.cases.specs.Table.{Row, outcome, table, same, all_give}

-- lists that pass the test are the same
same_equal : (l m : List ℕ) → same l m ≡ true → l ≡ m
unfolding same
same_equal [] [] e = refl
same_equal [] (b ∷ m) e = absurd (true≢false (sym e))
same_equal (a ∷ l) [] e = absurd (true≢false (sym e))
same_equal (a ∷ l) (b ∷ m) e =
    let parts = both (eqb a b) (same l m) e in
    rw (eqb-true a b parts.0, same_equal l m parts.1)

-- each row of a table all of whose rows pass
each_of : (rows : List Row) (i : ℕ) (d : Row) → all_give rows ≡ true → i < length rows → outcome (get_or rows i d).case ≡ (get_or rows i d).gives
unfolding all_give
each_of [] i d e h = absurd (omega arith)
each_of (r ∷ rest) zero d e h = same_equal (outcome r.case) r.gives (both (same (outcome r.case) r.gives) (all_give rest) e).0
each_of (r ∷ rest) (suc i) d e h = each_of rest i d (both (same (outcome r.case) r.gives) (all_give rest) e).1 (omega arith)

-- the one fact
all_rows : all_give table ≡ true
unfolding all_give table same outcome root to_bits of_bits le lt ne eq add sub mul Rules.min Rules.max Rules.abs Rules.is_finite order_key plane_axes in_range between tol tol_of scale scale_from shape_answer shape_verdict whole_entries whole finite_numbers finite_point all_finite inside inside_sphere inside_cylinder in_cylinder axial inside_polygon inside_prism point_in_polygon in_polygon points2 inside_wire polyline_dist dist_from Vectors.points Vectors.is_finite Vectors.component Vectors.sub Vectors.dot Vectors.norm_sq Vectors.norm closed all_twice uses same_edge edges face_edges edges_from node_count layout lists builder_tree tree_over build size node_list left_items right_items by_center split_axis wider spread highest lowest center_key center_on center_of numbers triangles fans fan fan_from faces faces_from sorted_by insert_by triangle_center triangle_box vertex key_of own_box join_all node_box box_list item_list Vectors.at Vectors.add Vectors.mul Vectors.min Vectors.max BoundingBoxes.center BoundingBoxes.include BoundingBoxes.empty BoundingBoxes.join
all_rows = refl

-- each row of the table
pub each_row : (i : ℕ) (d : Row) → i < length table → outcome (get_or table i d).case ≡ (get_or table i d).gives
each_row i d h = each_of table i d all_rows h
