-- What the builder measures does not depend on the order of a node's items: `node_box_any_order` and `split_axis_any_order`. An inner node's box
-- follows from those of its halves, and the axis from the box around the centres: `joined_halves` and `centers_axis`.
use Rattle.std.specs.Prelude.{ℕ, ◌+◌, ◌*◌, ◌≡◌, refl, Bool, true, false, cond, not, ◌||◌, List, [], ◌∷◌, ◌++◌, eqb, Float, take, drop}
use Rattle.std.proofs.Common.{sym, ap, ◌∙◌, take-append-drop}
use Rattle.std.proofs.Math.Path.{ap₂}
use Rattle.std.proofs.Math.Dec.{T}
use Rattle.std.specs.Float.{nan, inf, fin}
use Rattle.std.specs.Float.Ieee.{binary64, fits, of_bits, lt, le, eq, ne, is_nan}
use Rattle.std.specs.Float.Ieee.Fits.{cond-fits, inf-fits}
use Rattle.float.specs.Arithmetic.{zero, ◌⊖◌}
use Rattle.float.specs.Rules as Rules
use Rattle.float.specs.laws.Patterns.{ne_self}
use Rattle.float.specs.laws.Order.{Number, finite_number, le_not_lt, le_number_left, le_number_right, min_top, max_bottom}
use Rattle.keys.specs.Sorting.{sorted}
use Rattle.lent.specs.Floats.{F64s}
use Rattle.math.specs.declared.Vec3.{Vec3}
use Rattle.math.specs.declared.BoundingBox.{BoundingBox}
use Rattle.math.specs.Vectors as Vectors
use Rattle.math.specs.Vectors.{component}
use Rattle.math.specs.BoundingBoxes.{box, empty, include, size, join}
use Rattle.mesh.specs.MeshBoxes.{vertex, triangle_box}
use Rattle.mesh.specs.Mesh.{Mesh, own_box, join_all, node_box}
use Rattle.builder.specs.laws.BuilderLaws.{each, center_fits}
use Rattle.builder.specs.Builder.{center_of, center_on, lowest, highest, spread, wider, split_axis}
use Rattle.tree.specs.laws.JoinLaws.{NumberBox, own_box_numbers}
use Rattle.bvh.specs.steps.Extent.{end_with, with_center, with_centers, wider_axis, widest_axis, edge, own_edge, pick, settled_edge, settled_box, joined_edge, joined_end, joined_box}
use Rattle.bvh.specs.laws.ExtentZeros.{sub_same}
use Rattle.bvh.specs.laws.ExtentFolds.{next, picked, least, Floats, least_alike, least_zero, least_settled, least_parts}

-- ---- centres

-- an edge is kept unless the centre lies beyond it or the edge is a NaN
kept : (v c : Float) (beyond within : Bool) → (T within → Number v) → (Number v → within ≡ not beyond) → cond (beyond || ne v v) c v ≡ cond within v c
kept v c beyond within some opposite = rw (ne_self v) (by_number (is_nan v) refl)
  where
    by_number : (b : Bool) → is_nan v ≡ b → cond (beyond || b) c v ≡ cond within v c
    by_number true e = by_order beyond within (λ h. rw e at some h)
      where
        by_order : (p q : Bool) → (T q → ⊥) → cond (p || true) c v ≡ cond q v c
        by_order p true h = absurd (h tt)
        by_order true false h = refl
        by_order false false h = refl
    by_number false e =
        let n : Number v = rw e tt in
        rw (opposite n) (by_order beyond)
      where
        by_order : (p : Bool) → cond (p || false) c v ≡ cond (not p) v c
        by_order true = refl
        by_order false = refl

-- beside a finite centre one comparison tells whether an edge is kept
pub compared_once : (upper : Bool) (v c : Float) → end_with upper v c ≡ cond (Rules.is_finite c) (cond upper (cond (le c v) v c) (cond (le v c) v c)) v
unfolding end_with pick Rules.is_finite Rules.min Rules.max
compared_once upper v c = by_test upper (Rules.is_finite c) refl
  where
    number : Rules.is_finite c ≡ true → Number c
    number e = finite_number c (rw e tt)

    by_test : (upper b : Bool) → Rules.is_finite c ≡ b → cond b (cond upper (Rules.max v c) (Rules.min v c)) v ≡ cond b (cond upper (cond (le c v) v c) (cond (le v c) v c)) v
    by_test upper false e = refl
    by_test false true e = kept v c (lt c v) (le v c) (le_number_left v c) (λ n. le_not_lt v c n (number e))
    by_test true true e = kept v c (lt v c) (le c v) (le_number_right c v) (λ n. le_not_lt c v (number e) n)

-- ---- components

three : (f : Float → Float → Float) (s t : Bool) (x x' y y' z z' : Float) → cond s (f x x') (cond t (f y y') (f z z')) ≡ f (cond s x (cond t y z)) (cond s x' (cond t y' z'))
three f true t x x' y y' z z' = refl
three f false true x x' y y' z z' = refl
three f false false x x' y y' z z' = refl

edge_each : (P : Float → Type 0) (upper : Bool) (axis : ℕ) (b : BoundingBox) → P b.min.x → P b.min.y → P b.min.z → P b.max.x → P b.max.y → P b.max.z → P (edge upper axis b)
unfolding edge component
edge_each P false axis b p q r s t u = each P (eqb axis 0) (eqb axis 1) _ _ _ p q r
edge_each P true axis b p q r s t u = each P (eqb axis 0) (eqb axis 1) _ _ _ s t u

join_edge : (upper : Bool) (axis : ℕ) (a b : BoundingBox) → edge upper axis (join a b) ≡ pick upper (edge upper axis a) (edge upper axis b)
unfolding edge join component pick Vectors.min Vectors.max
join_edge false axis a b = three Rules.min (eqb axis 0) (eqb axis 1) _ _ _ _ _ _
join_edge true axis a b = three Rules.max (eqb axis 0) (eqb axis 1) _ _ _ _ _ _

with_center_edge : (upper : Bool) (axis : ℕ) (b : BoundingBox) (c : Vec3) → edge upper axis (with_center b c) ≡ cond (Rules.is_finite (component c axis)) (pick upper (edge upper axis b) (component c axis)) (edge upper axis b)
unfolding edge with_center component end_with pick
with_center_edge false axis b c = three (λ lo x. cond (Rules.is_finite x) (Rules.min lo x) lo) (eqb axis 0) (eqb axis 1) _ _ _ _ _ _
with_center_edge true axis b c = three (λ hi x. cond (Rules.is_finite x) (Rules.max hi x) hi) (eqb axis 0) (eqb axis 1) _ _ _ _ _ _

empty_edge : (upper : Bool) (axis : ℕ) → edge upper axis empty ≡ inf upper
unfolding edge component empty
empty_edge false axis = each (λ x. x ≡ inf false) (eqb axis 0) (eqb axis 1) _ _ _ refl refl refl
empty_edge true axis = each (λ x. x ≡ inf true) (eqb axis 0) (eqb axis 1) _ _ _ refl refl refl

size_edges : (b : BoundingBox) (axis : ℕ) → component (size b) axis ≡ edge true axis b ⊖ edge false axis b
unfolding size Vectors.sub component edge
size_edges b axis = three ◌⊖◌ (eqb axis 0) (eqb axis 1) _ _ _ _ _ _

-- ---- the axis

-- whether the centre of t counts
abbrev finite_on : Mesh → ℕ → ℕ → Bool
finite_on m axis t = Rules.is_finite (center_on m axis t)

lowest_picked : (m : Mesh) (axis : ℕ) (lo : Float) (l : List ℕ) → lowest m axis lo l ≡ picked false (finite_on m axis) (center_on m axis) lo l
unfolding lowest picked next pick
lowest_picked m axis lo [] = refl
lowest_picked m axis lo (t ∷ rest) = lowest_picked m axis (cond (finite_on m axis t) (Rules.min lo (center_on m axis t)) lo) rest

highest_picked : (m : Mesh) (axis : ℕ) (hi : Float) (l : List ℕ) → highest m axis hi l ≡ picked true (finite_on m axis) (center_on m axis) hi l
unfolding highest picked next pick
highest_picked m axis hi [] = refl
highest_picked m axis hi (t ∷ rest) = highest_picked m axis (cond (finite_on m axis t) (Rules.max hi (center_on m axis t)) hi) rest

-- a zero is finite
zero_counts : (x : Float) → T (eq x zero) → T (Rules.is_finite x)
unfolding Rules.is_finite eq of_bits
zero_counts nan h = h
zero_counts (inf s) h = h
zero_counts (fin s n e) h = tt

centers : (m : Mesh) (axis : ℕ) → Floats (finite_on m axis) (center_on m axis)
unfolding Rules.is_finite
centers m axis =
    record {
      f64 = λ t h. record { number = finite_number (center_on m axis t) h; fit = center_fits m axis t };
      zeros = λ t z. zero_counts (center_on m axis t) z;
    }

module _ (m : Mesh) (items : List ℕ) where
  -- highest less lowest
  spread_least : (l : List ℕ) (axis : ℕ) → spread m l axis ≡ least true (finite_on m axis) (center_on m axis) l ⊖ least false (finite_on m axis) (center_on m axis) l
  unfolding spread
  spread_least l axis = ap₂ ◌⊖◌ (highest_picked m axis (inf true) l) (lowest_picked m axis (inf false) l)

  -- the spread on an axis does not depend on the order of the items: where both ends are zero both are the first zero
  pub spread_any_order : (axis : ℕ) → spread m (sorted items) axis ≡ spread m items axis
  spread_any_order axis =
      let finite = finite_on m axis in
      let e = center_on m axis in
      let given = centers m axis in
      rw (spread_least (sorted items) axis, spread_least items axis)
      (sub_same (least_alike false finite e given items) (least_alike true finite e given items)
      (λ z w. least_zero false finite e given (sorted items) z ∙ sym (least_zero true finite e given (sorted items) w))
      (λ z w. least_zero false finite e given items z ∙ sym (least_zero true finite e given items w)))

  wider_any_order : (a b : ℕ) → wider m (sorted items) a b ≡ wider m items a b
  unfolding wider
  wider_any_order a b = rw (spread_any_order a, spread_any_order b)

  -- the axis on which a node is split does not depend on the order of its items
  pub split_axis_any_order : split_axis m (sorted items) ≡ split_axis m items
  unfolding split_axis
  split_axis_any_order = rw (wider_any_order 0 1, wider_any_order (wider m items 0 1) 2)

centers_picked : (m : Mesh) (upper : Bool) (axis : ℕ) (b : BoundingBox) (l : List ℕ) → edge upper axis (with_centers m b l) ≡ picked upper (finite_on m axis) (center_on m axis) (edge upper axis b) l
unfolding with_centers picked next center_on
centers_picked m upper axis b [] = refl
centers_picked m upper axis b (t ∷ rest) =
    centers_picked m upper axis (with_center b (center_of m t)) rest ∙ ap (λ v. picked upper (finite_on m axis) (center_on m axis) v rest) (with_center_edge upper axis b (center_of m t))

centers_least : (m : Mesh) (items : List ℕ) (upper : Bool) (axis : ℕ) → edge upper axis (with_centers m empty items) ≡ least upper (finite_on m axis) (center_on m axis) items
centers_least m items upper axis = centers_picked m upper axis empty items ∙ ap (λ v. picked upper (finite_on m axis) (center_on m axis) v items) (empty_edge upper axis)

-- the size of the box around the centres is their spread
centers_spread : (m : Mesh) (items : List ℕ) (axis : ℕ) → component (size (with_centers m empty items)) axis ≡ spread m items axis
centers_spread m items axis = rw (size_edges, spread_least) (ap₂ ◌⊖◌ (centers_least m items true axis) (centers_least m items false axis))

centers_wider : (m : Mesh) (items : List ℕ) (a b : ℕ) → wider_axis (size (with_centers m empty items)) a b ≡ wider m items a b
unfolding wider wider_axis
centers_wider m items a b = rw (centers_spread m items a, centers_spread m items b)

-- the axis on which that box is widest is the one on which the node is split
pub centers_axis : (m : Mesh) (items : List ℕ) → widest_axis (size (with_centers m empty items)) ≡ split_axis m (sorted items)
unfolding widest_axis split_axis
centers_axis m items = rw (centers_wider m items 0 1, centers_wider m items (wider m items 0 1) 2) (sym (split_axis_any_order m items))

-- ---- the box

join_empty : (b : BoundingBox) → NumberBox b → join empty b ≡ b
unfolding join empty Vectors.min Vectors.max
join_empty b p =
    rw
    (min_top b.min.x p.min.x, min_top b.min.y p.min.y, min_top b.min.z p.min.z, max_bottom b.max.x p.max.x, max_bottom b.max.y p.max.y, max_bottom b.max.z p.max.z)

-- a node's box is as well joined from the empty box on
node_box_joined : (m : Mesh) (l : List ℕ) → node_box m l ≡ join_all m empty l
unfolding node_box join_all
node_box_joined m [] = refl
node_box_joined m (t ∷ rest) = rw (join_empty (own_box m t) (own_box_numbers m t))

-- every edge counts
abbrev always : ℕ → Bool
always t = true

joined_picked : (m : Mesh) (upper : Bool) (axis : ℕ) (b : BoundingBox) (l : List ℕ) → edge upper axis (join_all m b l) ≡ picked upper always (own_edge m upper axis) (edge upper axis b) l
unfolding join_all picked next
joined_picked m upper axis b [] = refl
joined_picked m upper axis b (t ∷ rest) =
    joined_picked m upper axis (join b (own_box m t)) rest ∙ ap (λ v. picked upper always (own_edge m upper axis) v rest) (join_edge upper axis b (own_box m t))

node_box_least : (m : Mesh) (upper : Bool) (axis : ℕ) (l : List ℕ) → edge upper axis (node_box m l) ≡ least upper always (own_edge m upper axis) l
node_box_least m upper axis l = rw node_box_joined (joined_picked m upper axis empty l ∙ ap (λ v. picked upper always (own_edge m upper axis) v l) (empty_edge upper axis))

-- every coordinate is an f64 value
abbrev pub Fit : Mesh → Type 0
Fit m = F64s m.coords

pick_fits : (upper : Bool) (a b : Float) → T (fits binary64 a) → T (fits binary64 b) → T (fits binary64 (pick upper a b))
unfolding pick Rules.min Rules.max
pick_fits false a b p q = cond-fits binary64 (lt b a || ne a a) b a q p
pick_fits true a b p q = cond-fits binary64 (lt a b || ne a a) b a q p

module _ (m : Mesh) (fit : Fit m) (upper : Bool) (axis : ℕ) where
  include_fits : (b : BoundingBox) (v : ℕ) → T (fits binary64 (edge upper axis b)) → T (fits binary64 (edge upper axis (include b (vertex m.coords v))))
  unfolding include join vertex Vectors.at
  include_fits b v p =
      let point = vertex m.coords v in
      let x = fit (3 * v) in
      let y = fit (3 * v + 1) in
      let z = fit (3 * v + 2) in
      rw (join_edge upper axis b (box point point)) (pick_fits upper _ _ p (edge_each (λ a. T (fits binary64 a)) upper axis (box point point) x y z x y z))

  own_edge_fits : (t : ℕ) → T (fits binary64 (own_edge m upper axis t))
  unfolding own_box triangle_box
  own_edge_fits t = include_fits _ _ (include_fits _ _ (include_fits empty _ (rw (empty_edge upper axis) (inf-fits binary64 upper))))

  own_edge_number : (t : ℕ) → Number (own_edge m upper axis t)
  own_edge_number t =
      let p = own_box_numbers m t in
      edge_each Number upper axis (own_box m t) p.min.x p.min.y p.min.z p.max.x p.max.y p.max.z

  own_edges : Floats always (own_edge m upper axis)
  own_edges = record { f64 = λ t h. record { number = own_edge_number t; fit = own_edge_fits t }; zeros = λ t z. tt }

  -- an edge of a node's box, joined in any order
  edge_any_order : (items : List ℕ) → edge upper axis (node_box m (sorted items)) ≡ settled_edge m items upper axis (edge upper axis (node_box m items))
  unfolding settled_edge
  edge_any_order items =
      rw (node_box_least m upper axis (sorted items), node_box_least m upper axis items) (least_settled upper always (own_edge m upper axis) own_edges items)

  -- an edge of a node's box from those of its two halves
  edge_halves : (a b : List ℕ) → edge upper axis (node_box m (sorted (a ++ b))) ≡ joined_edge m (a ++ b) upper axis (edge upper axis (node_box m (sorted a))) (edge upper axis (node_box m (sorted b)))
  unfolding joined_edge
  edge_halves a b =
      rw (node_box_least m upper axis (sorted (a ++ b)), node_box_least m upper axis (sorted a), node_box_least m upper axis (sorted b))
      (least_parts upper always (own_edge m upper axis) own_edges a b)

-- a node's box, joined in any order: an edge that is not zero is the same, and one that is zero has the sign of the lowest-numbered triangle
-- whose edge is zero
pub node_box_any_order : (m : Mesh) → Fit m → (items : List ℕ) → node_box m (sorted items) ≡ settled_box m items (node_box m items)
unfolding settled_box edge component
node_box_any_order m fit items =
    rw
    (← edge_any_order m fit false 0 items, ← edge_any_order m fit false 1 items, ← edge_any_order m fit false 2 items, ← edge_any_order m fit true 0 items, ← edge_any_order m fit true 1 items, ← edge_any_order m fit true 2 items)

joined_parts : (m : Mesh) → Fit m → (a b : List ℕ) → node_box m (sorted (a ++ b)) ≡ joined_box m (a ++ b) (node_box m (sorted a)) (node_box m (sorted b))
unfolding joined_box joined_end edge component
joined_parts m fit a b =
    rw
    (← edge_halves m fit false 0 a b, ← edge_halves m fit false 1 a b, ← edge_halves m fit false 2 a b, ← edge_halves m fit true 0 a b, ← edge_halves m fit true 1 a b, ← edge_halves m fit true 2 a b)

-- the box of an inner node is that of its halves joined, whose items may stand in any order
pub joined_halves : (m : Mesh) → Fit m → (items : List ℕ) (half : ℕ) → joined_box m items (node_box m (sorted (take half items))) (node_box m (sorted (drop half items))) ≡ node_box m (sorted items)
joined_halves m fit items half = sym (rw (take-append-drop half items) at (joined_parts m fit (take half items) (drop half items)))
