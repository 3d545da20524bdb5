-- `keep_triangle` meets its contract: its test is that of the definition, and the triangle is written behind the faces before it.
use Prim.Native.Nat.{ℕ, ◌+◌, ◌*◌, ◌≤◌, ◌<◌}
use mathlib.Core.Bool.{true, false}
use mathlib.Core.Path.{◌≡◌, sym}
use mathlib.Core.List.{List, [], ◌∷◌, ◌++◌, append-nil}
use native.Mathlib.Omega.{arith}
use lib.ListN.{length, take, drop, set}
use Rattle.lent.specs.laws.OverLaws.{over_own, over_stores, over_part}
use Rattle.mesh.specs.declared.Triangle.{Triangle}
use Rattle.weld.specs.Welding.{degenerate, kept, corners_of, ends_from}
use Rattle.weld.specs.steps.WeldSteps.{Keeps}
use Rattle.weld.proofs.keep_triangle.Goals as goal

-- of a degenerate triangle nothing is written
keeps_none : (t : Triangle) (n : ℕ) (corners ends : List ℕ) → degenerate t ≡ true → 3 * n ≤ length corners → n ≤ length ends → Keeps t n corners ends n corners ends
unfolding kept corners_of ends_from
keeps_none t n corners ends d h k =
    record {
      faces = rw d (omega arith);
      corners = rw (d, append-nil) (sym (over_own (3 * n) corners h));
      ends = rw (d, append-nil) (sym (over_own n ends k));
    }

-- another is written behind them
keeps_one : (t : Triangle) (n : ℕ) (corners ends : List ℕ) (width : ℕ) (part : List ℕ) → width ≡ 3 → part ≡ t.a ∷ t.b ∷ t.c ∷ [] → degenerate t ≡ false → 3 * n + 2 < length corners → n < length ends
    → Keeps t n corners ends (n + 1) (take (3 * n) corners ++ (part ++ drop width (drop (3 * n) corners))) (set ends n (3 * n + 3))
unfolding kept corners_of ends_from
keeps_one t n corners ends width part wide same d h k =
    record {
      faces = rw d;
      corners = rw d (over_part (3 * n) width corners part (t.a ∷ t.b ∷ t.c ∷ []) (omega arith) wide same);
      ends = rw d (sym (over_stores n ends ((3 * n + 3) ∷ []) (omega arith)));
    }

pub returns-then-t : goal.returns-then-t
unfolding degenerate
returns-then-t c = keeps_none c.args.t c.args.count.now c.args.corners.now c.args.ends.now c.if-t.true (omega arith) (omega arith)

pub returns : goal.returns
unfolding degenerate
returns c = keeps_one c.args.t c.args.count.now c.args.corners.now c.args.ends.now _ _ (omega arith) c.copy_from_slice.ensures.after c.if-t.false (omega arith) (omega arith)
