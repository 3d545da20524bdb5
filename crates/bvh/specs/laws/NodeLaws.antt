-- What holds of the items of a node holds of parts of them and of another order.
use Rattle.std.specs.Prelude.{ℕ, ◌+◌, ◌<◌, List, length, get_or, take, drop}
use Rattle.std.proofs.Common.{arith, length-take, length-drop, get_or-take, get_or-drop}
use Rattle.keys.specs.Sorting.{SameCounts}
use Rattle.keys.specs.laws.Permutations.{each_permuted}
use Rattle.mesh.specs.Mesh.{Mesh}
use Rattle.mesh.specs.steps.Items.{Item, Items}

module _ (m : Mesh) (items : List ℕ) (given : Items m items) where
  -- the items in another order
  pub items_permuted : (others : List ℕ) → SameCounts others items → Items m others
  items_permuted others same = each_permuted (Item m) items others same given

  -- the first k of them
  pub items_take : (k : ℕ) → Items m (take k items)
  items_take k j h = taken (omega (arith, length-take k items)) (omega (arith, length-take k items))
    where
      taken : j < k → j < length items → Item m (get_or (take k items) j 0)
      taken less in_List = rw (get_or-take k items j 0 less) (given j in_List)

  -- the others
  pub items_drop : (k : ℕ) → Items m (drop k items)
  items_drop k j h = dropped (omega (arith, length-drop k items))
    where
      dropped : k + j < length items → Item m (get_or (drop k items) j 0)
      dropped in_List = rw (get_or-drop k items j 0) (given (k + j) in_List)
