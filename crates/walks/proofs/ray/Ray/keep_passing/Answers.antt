use Prim.Native.Nat.{◌+◌}
use native.Mathlib.Omega.{arith}
use mathlib.Core.Path.{◌≡◌, refl, sym}
use lib.ListN.{length-set}
use Rattle.walks.specs.laws.LeafLaws.{kept_none, kept_next}
use Rattle.walks.proofs.ray.Ray.keep_passing.Goals as goal

pub loop-t-init : goal.loop-t-init
loop-t-init c = (c.told-kept, kept_none _)

pub loop-t-preserved : goal.loop-t-preserved
loop-t-preserved c =
    let inv = c.loop-t.invariant in
    let place : 0 + c.loop-t.t-index ≡ c.loop-t.t-index = omega arith in
    (simp length-set inv.0, rw c.raised-n.ensures (kept_next inv.1 (omega (arith, inv.0, inv.1.few, c.requires.few)) _ (rw place refl) (c.requires.items c.loop-t.t-index c.loop-t-test.true) _ (sym c.own_passes.ensures)))
