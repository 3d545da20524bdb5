-- The directions of the rays, and what the ray walk takes for granted of a ray. Definitions only.
use Rattle.std.specs.Prelude.{ℕ, ◌≡◌, true, List, [], ◌∷◌, Float, get_or}
use Rattle.std.specs.Float.{nan}
use Rattle.math.specs.declared.Vec3.{Vec3}
use Rattle.math.specs.Vectors.{vec, is_finite}
use Rattle.scan.specs.steps.Slabs.{finite_non_zero}
use Rattle.scan.specs.Scan.{inverse, directions}
use Rattle.walks.specs.declared.ray.Heading.{Heading}
use Rattle.walks.specs.declared.ray.Near.{Near}
use Rattle.walks.specs.steps.NodePlanes.{near_places}

-- direction k
unfoldable pub direction : ℕ → Vec3
direction k = get_or directions k (vec nan nan nan)

-- its three numbers, as a row of a table
abbrev pub row : Vec3 → List Float
row d = d.x ∷ d.y ∷ d.z ∷ []

-- a direction with what is worked out of it
unfoldable pub heading : Vec3 → Heading
heading d = record { direction = d; inverse = inverse d; near = near_places (inverse d) }

-- a ray: where it begins, and its direction
pub record Line : Type 0 where
  pub origin : Vec3
  pub direction : Vec3

-- what holds of a ray's parts: its origin is finite, `inverse` is one over its direction, finite and not zero, and `near` has the places of the nearer planes
pub record Cast (origin direction inv : Vec3) (planes : Near) : Type 0 where
  pub finite : is_finite origin ≡ true
  pub inverse : inv ≡ inverse direction
  pub factors : finite_non_zero inv ≡ true
  pub near : planes ≡ near_places inv
