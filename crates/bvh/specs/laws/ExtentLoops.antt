-- The laws by which the loops over a node's items meet the definitions of steps/Extent.antt.
use Rattle.std.specs.Prelude.{ℕ, ◌+◌, ◌<◌, ◌≡◌, List, [], ◌∷◌, ◌++◌, Float, IfSome, length, get_or, take, drop}
use Rattle.std.proofs.Common.{arith, add-one, drop-cons, ◌∙◌}
use Rattle.std.proofs.lemmas.List.{take_more}
use Rattle.keys.specs.Sorting.{sorted, count, SameCounts}
use Rattle.keys.specs.laws.SortingTheorems.{sorted_permuted, all_of, all_sorted_by}
use Rattle.keys.specs.laws.Permutations.{count_append}
use Rattle.math.specs.declared.BoundingBox.{BoundingBox}
use Rattle.mesh.specs.steps.Items.{Item, Items}
use Rattle.mesh.specs.Mesh.{Mesh}
use Rattle.builder.specs.Builder.{center_of}
use Rattle.bvh.specs.steps.Extent.{with_center, with_centers, first_zero, earlier}
use Rattle.bvh.specs.laws.ExtentFirst.{found_more, first_is_item}

-- from item j on: its centre is put in, and then the rest
pub with_centers_next : (m : Mesh) (b : BoundingBox) (items : List ℕ) (j : ℕ) → j < length items → with_centers m b (drop j items) ≡ with_centers m (with_center b (center_of m (get_or items j 0))) (drop (j + 1) items)
unfolding with_centers
with_centers_next m b items j h = rw (add-one, drop-cons items j 0)

-- the items as far as item j, and those before it: it may come before what is found among these
pub first_zero_more : (e : ℕ → Float) (items : List ℕ) (j : ℕ) → j < length items → first_zero e (sorted (take (j + 1) items)) ≡ earlier (first_zero e (sorted (take j items))) (get_or items j 0) (e (get_or items j 0))
unfolding count
first_zero_more e items j h =
    let t = get_or items j 0 in
    let before = take j items in
    let same : SameCounts (before ++ t ∷ []) (t ∷ before) = λ k. count_append k before (t ∷ []) ∙ omega arith in
    rw (take_more items j 0 h, sorted_permuted (before ++ t ∷ []) (t ∷ before) same) (found_more e t before)

-- what is found is a triangle of the mesh if the items are
pub found_item : (m : Mesh) (e : ℕ → Float) (items : List ℕ) → Items m items → IfSome (first_zero e (sorted items)) (Item m)
found_item m e items given = first_is_item e (Item m) (sorted items) (all_sorted_by (Item m) (λ x. x) items (all_of (Item m) items given))
