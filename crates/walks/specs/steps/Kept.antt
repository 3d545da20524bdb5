-- The triangles of a leaf whose own boxes a ray passes. Definition only.
use Rattle.std.specs.Prelude.{ℕ, ◌≤◌, ◌<◌, ◌≡◌, true, List, get_or}
use Rattle.math.specs.declared.Vec3.{Vec3}
use Rattle.mesh.specs.steps.Items.{Item}
use Rattle.mesh.specs.Mesh.{Mesh, own_box}
use Rattle.scan.specs.Scan.{Vote, ray_passes, found}
use Rattle.scan.specs.steps.VoteSteps.{cast_over}
use Rattle.walks.specs.Walks.{items_from}

-- the first n of a list are triangles whose own boxes pass, and what the ray from o in direction d finds at them is what it finds at the items at `places` places from i on
pub record Kept (m : Mesh) (o d : Vec3) (items : List ℕ) (i places : ℕ) (list : List ℕ) (n : ℕ) : Type 0 where
  pub few : n ≤ places
  pub each : (j : ℕ) → j < n → Item m (get_or list j 0) × (ray_passes o d (own_box m (get_or list j 0)) ≡ true)
  pub same : (v : Vote) → cast_over (found m o d) v (items_from list 0 n) ≡ cast_over (found m o d) v (items_from items i places)
