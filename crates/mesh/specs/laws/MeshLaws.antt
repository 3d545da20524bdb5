-- The laws by which a loop over items joins their own boxes.
use Rattle.std.specs.Prelude.{ℕ, ◌+◌, ◌<◌, ◌≡◌, refl, List, [], ◌∷◌, length, get_or, drop}
use Rattle.std.proofs.Common.{add-one, arith, drop-cons}
use Rattle.math.specs.declared.BoundingBox.{BoundingBox}
use Rattle.math.specs.BoundingBoxes.{join}
use Rattle.mesh.specs.Mesh.{Mesh, own_box, join_all, node_box}

-- the first own box, and then the rest
pub node_box_first : (m : Mesh) (items : List ℕ) → 0 < length items → node_box m items ≡ join_all m (own_box m (get_or items 0 0)) (drop 1 items)
unfolding node_box
node_box_first m [] h = absurd (omega arith)
node_box_first m (t ∷ rest) h = refl

-- from item j on: its own box is joined, and then the rest
pub join_all_next : (m : Mesh) (b : BoundingBox) (items : List ℕ) (j : ℕ) → j < length items → join_all m b (drop j items) ≡ join_all m (join b (own_box m (get_or items j 0))) (drop (j + 1) items)
unfolding join_all
join_all_next m b items j h = rw (add-one, drop-cons items j 0)
