-- The planes read by their places give `slab_hits`, and so csx's test.
use Rattle.std.specs.Prelude.{ℕ, ◌+◌, ◌-◌, ◌*◌, ◌≤◌, ◌≡◌, List, Float, get_or}
use native.Mathlib.Omega.{arith}
use Rattle.std.proofs.Common.{sym}
use Rattle.std.proofs.Math.Path.{ap}
use Rattle.std.specs.Float.{nan}
use Rattle.std.specs.Float.Ieee.{neg, lt}
use Rattle.keys.specs.laws.SortingTheorems.{by_test}
use Rattle.float.specs.Arithmetic.{zero}
use Rattle.math.specs.declared.Vec3.{Vec3}
use Rattle.math.specs.declared.BoundingBox.{BoundingBox}
use Rattle.math.specs.Vectors.{at}
use Rattle.tree.specs.Tree.{box_at}
use Rattle.scan.specs.steps.Slabs.{entry, minus_exit}
use Rattle.walks.specs.declared.ray.Near.{Near}
use Rattle.walks.specs.steps.NodePlanes.{near_place, near_places, far_place, meets_at, Seen}

-- on one axis: the nearer plane is where the ray enters the slab, the farther one where it leaves
module _ (boxes : List Float) (i axis place : ℕ) (origin inverse : Float) (near : place ≡ near_place inverse axis) where
  abbrev lower : Float
  lower = get_or boxes (i + axis) nan

  abbrev upper : Float
  upper = get_or boxes (i + 3 + axis) nan

  near_entry : meets_at boxes (i + place) origin inverse ≡ entry origin inverse lower upper
  unfolding meets_at near_place entry
  near_entry =
      let behind : i + (axis + 3) ≡ i + 3 + axis = omega arith in
      rw near (by_test (lt zero inverse) (λ e. rw e) (λ e. rw (e, behind)))

  far_exit : meets_at boxes (i + far_place place axis) origin (neg inverse) ≡ minus_exit origin inverse lower upper
  unfolding meets_at near_place minus_exit
  far_exit =
      let above : i + (2 * axis + 3 - axis) ≡ i + 3 + axis = omega arith in
      let below : i + (2 * axis + 3 - (axis + 3)) ≡ i + axis = omega arith in
      rw near (by_test (lt zero inverse) (λ e. rw (e, above)) (λ e. rw (e, below)))

near_place_within : (inverse : Float) (axis : ℕ) → (axis ≤ near_place inverse axis) × (near_place inverse axis ≤ axis + 3)
unfolding near_place
near_place_within inverse axis = by_test (lt zero inverse) (λ e. rw e (omega arith, omega arith)) (λ e. rw e (omega arith, omega arith))

module _ (inv : Vec3) {near : Near} (right : near ≡ near_places inv) where
  places : (near.x ≡ near_place inv.x 0) × (near.y ≡ near_place inv.y 1) × (near.z ≡ near_place inv.z 2)
  unfolding near_places
  places = (ap (λ (near : Near). near.x) right, ap (λ (near : Near). near.y) right, ap (λ (near : Near). near.z) right)

  -- the places lie in the node's six floats
  pub places_within : (near.x ≤ 3) × (near.y ≤ 4) × (near.z ≤ 5) × (2 ≤ near.z)
  places_within =
      let z = rw (sym places.2) at (near_place_within inv.z 2) in
      (rw places.0 (near_place_within inv.x 0).1, rw places.1 (near_place_within inv.y 1).1, z.1, z.0)

module _ {boxes : List Float} {n : ℕ} {o inv : Vec3} {near : Near} (s : Seen boxes n o inv near) where
  abbrev b : BoundingBox
  b = box_at boxes n

  first : 6 * n + 0 ≡ 6 * n
  first = omega arith

  fourth : 6 * n + 3 + 0 ≡ 6 * n + 3
  fourth = omega arith

  -- what is met at the nearer planes are the entries
  pub entries : (meets_at boxes (6 * n + near.x) o.x inv.x ≡ entry o.x inv.x b.min.x b.max.x)
      × (meets_at boxes (6 * n + near.y) o.y inv.y ≡ entry o.y inv.y b.min.y b.max.y)
      × (meets_at boxes (6 * n + near.z) o.z inv.z ≡ entry o.z inv.z b.min.z b.max.z)
  unfolding box_at at
  entries = (
    rw (first, fourth) at (near_entry boxes (6 * n) 0 near.x o.x inv.x (places inv s.near).0),
    near_entry boxes (6 * n) 1 near.y o.y inv.y (places inv s.near).1,
    near_entry boxes (6 * n) 2 near.z o.z inv.z (places inv s.near).2,
  )

  -- and at the farther ones the exits, negated
  pub exits : (meets_at boxes (6 * n + far_place near.x 0) o.x (neg inv.x) ≡ minus_exit o.x inv.x b.min.x b.max.x)
      × (meets_at boxes (6 * n + far_place near.y 1) o.y (neg inv.y) ≡ minus_exit o.y inv.y b.min.y b.max.y)
      × (meets_at boxes (6 * n + far_place near.z 2) o.z (neg inv.z) ≡ minus_exit o.z inv.z b.min.z b.max.z)
  unfolding box_at at
  exits = (
    rw (first, fourth) at (far_exit boxes (6 * n) 0 near.x o.x inv.x (places inv s.near).0),
    far_exit boxes (6 * n) 1 near.y o.y inv.y (places inv s.near).1,
    far_exit boxes (6 * n) 2 near.z o.z inv.z (places inv s.near).2,
  )
