-- `passes` of a ray meets its contract: what is met at the planes are the entries and exits of the slabs.
use mathlib.Core.Path.{sym, ap}
use Rattle.scan.specs.Scan.{ray_passes}
use Rattle.scan.specs.steps.Slabs.{slab_hits}
use Rattle.scan.specs.laws.SlabLaws.{all_numbers, slab_same}
use Rattle.walks.specs.steps.Casts.{Line}
use Rattle.walks.specs.laws.CastLaws.{seen}
use Rattle.walks.specs.laws.PlaneLaws.{entries, exits}
use Rattle.walks.proofs.ray.RayNodeTest.passes.Goals as goal

pub overlap-requires : goal.overlap-requires
overlap-requires c =
    let s = seen c.self.invariant c.requires.there c.requires.some in
    let n = all_numbers s.met in
    rw
    (c.meets_at.ensures, c.meets_at-2.ensures, c.meets_at-4.ensures, c.meets_at-5.ensures, c.far_place.ensures, c.far_place-2.ensures, (entries s).0, (entries s).1, (exits s).0, (exits s).1)
    (n.0.0, n.1.0, n.0.1, n.1.1)

pub returns : goal.returns
unfolding slab_hits ray_passes
returns c =
    let s = seen c.self.invariant c.requires.there c.requires.some in
    let direction = ap (λ (l : Line). l.direction) c.self.view_is in
    let origin = ap (λ (l : Line). l.origin) c.self.view_is in
    rw (
      ← direction,
      ← origin,
      sym c.self.invariant.inverse,
      c.overlap.ensures,
      c.meets_at-6.ensures,
      c.meets_at-5.ensures,
      c.meets_at-4.ensures,
      c.meets_at-3.ensures,
      c.meets_at-2.ensures,
      c.meets_at.ensures,
      c.far_place.ensures,
      c.far_place-2.ensures,
      c.far_place-3.ensures,
      (entries s).0,
      (entries s).1,
      (entries s).2,
      (exits s).0,
      (exits s).1,
      (exits s).2,
    )
    (slab_same s.met)
