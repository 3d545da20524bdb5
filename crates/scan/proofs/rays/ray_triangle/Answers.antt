-- Written out, so that a wrong `rays::ray_triangle` is refused at once.
use Rattle.scan.specs.Rays.{ray_triangle, hit_at}
use Rattle.scan.proofs.rays.ray_triangle.Goals as goal

pub returns-then-u-v : goal.returns-then-u-v
unfolding ray_triangle hit_at
returns-then-u-v c =
    rw (← c.sub-e1.ensures, ← c.sub-e2.ensures, ← c.cross-h.ensures, ← c.dot-det.ensures, ← c.sub-s.ensures, ← c.dot.ensures, ← c.cross-q.ensures, ← c.dot-2.ensures, ← c.dot-3.ensures, ← c.parallel.ensures, c.if-parallel.false, c.if-not-u.false, c.if-v-u.false, c.if-along.false, c.if-u-v.true)
