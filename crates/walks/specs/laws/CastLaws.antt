-- What follows for a ray: where the planes of a node stand, that they are seen there, and that its direction says its heading.
use Rattle.std.specs.Prelude.{ℕ, ◌+◌, ◌*◌, ◌≤◌, ◌<◌, ◌≡◌, refl, false, List, Float, length}
use Rattle.math.specs.declared.Vec3.{Vec3}
use Rattle.walks.specs.declared.ray.Near.{Near}
use Rattle.walks.specs.declared.ray.Heading.{Heading}
use Rattle.math.specs.BoundingBoxes.{is_empty}
use Rattle.tree.specs.Tree.{box_at}
use Rattle.walks.specs.steps.NodePlanes.{Seen}
use Rattle.walks.specs.laws.PlaneLaws.{places_within}
use Rattle.walks.specs.steps.Casts.{Cast, heading}

-- so the places lie in a node's six floats
pub within : {origin direction inv : Vec3} {planes : Near} → Cast origin direction inv planes → (planes.x ≤ 3) × (planes.y ≤ 4) × (planes.z ≤ 5) × (2 ≤ planes.z)
within cast = places_within _ cast.near

-- and the planes of a box that is not empty are seen by their places
pub seen : {boxes : List Float} {n : ℕ} {origin direction inv : Vec3} {planes : Near} → Cast origin direction inv planes → 6 * n + 5 < length boxes → is_empty (box_at boxes n) ≡ false → Seen boxes n origin inv planes
seen cast there some = record { there = there; met = record { origin = cast.finite; direction = cast.factors; some = some }; near = cast.near }

-- a ray's heading is worked out of its direction
pub heading_kept : {origin : Vec3} {given : Heading} → Cast origin given.direction given.inverse given.near → heading given.direction ≡ given
unfolding heading
heading_kept cast = rw (← cast.inverse, ← cast.near) refl
