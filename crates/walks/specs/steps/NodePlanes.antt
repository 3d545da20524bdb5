-- The test of a ray against a node's box with the planes read by their places in the tree's list: the sign of the direction says once a ray where the nearer
-- planes stand. Definitions only.
use Rattle.std.specs.Prelude.{ℕ, ◌+◌, ◌-◌, ◌*◌, ◌<◌, ◌≡◌, cond, List, Float, length, get_or}
use Rattle.std.specs.Float.{nan}
use Rattle.std.specs.Float.Ieee.{lt}
use Rattle.float.specs.Arithmetic.{zero}
use Rattle.math.specs.declared.Vec3.{Vec3}
use Rattle.tree.specs.Tree.{box_at}
use Rattle.scan.specs.Rays.{meets}
use Rattle.scan.specs.steps.Slabs.{Met}
use Rattle.walks.specs.declared.ray.Near.{Near}

-- where among a node's six floats the nearer plane on an axis stands
unfoldable pub near_place : Float → ℕ → ℕ
near_place inverse axis = cond (lt zero inverse) axis (axis + 3)

-- on each axis
unfoldable pub near_places : Vec3 → Near
near_places inverse = record { x = near_place inverse.x 0; y = near_place inverse.y 1; z = near_place inverse.z 2 }

-- where the farther one stands: of an axis's two planes one stands at the axis's number, and the other three places behind
abbrev pub far_place : ℕ → ℕ → ℕ
far_place near axis = 2 * axis + 3 - near

-- where the ray meets the plane at place i
unfoldable pub meets_at : List Float → ℕ → Float → Float → Float
meets_at boxes i origin inverse = meets origin inverse (get_or boxes i nan)

-- what is known where a node's box is tested: the node is in the list, the ray and the box are as the quicker test wants them, and the ray's places are right
pub record Seen (boxes : List Float) (n : ℕ) (origin inverse : Vec3) (planes : Near) : Type 0 where
  pub there : 6 * n + 5 < length boxes
  pub met : Met origin inverse (box_at boxes n)
  pub near : planes ≡ near_places inverse
