use Prim.Native.Nat.{suc}
use native.Mathlib.Omega.{arith}
use mathlib.Core.Path.{◌≡◌, refl, sym, ◌∙◌}
use mathlib.Core.List.{◌∷◌}
use lib.ListN.{length, take, drop, get_or, length-take, drop_of_length-le}
use Rattle.std.specs.Prelude.{Some, None}
use Rattle.std.proofs.Common.{add-one, drop-cons, get_or-take}
use Rattle.std.proofs.Math.Seq.{take-length}
use Rattle.scan.specs.Scan.{found}
use Rattle.scan.specs.steps.VoteSteps.{cast_over}
use Rattle.scan.specs.laws.ScanLaws.{cast_over_none}
use Rattle.walks.specs.laws.WalkLaws.{items_from_part}
use Rattle.walks.proofs.ray.Ray.parity_with.Goals as goal

pub loop-t-init : goal.loop-t-init
loop-t-init c =
    let items = c.args.items.now in
    let kept = c.keep_passing-n.new.kept in
    let n = c.keep_passing-n.result in
    let front = items_from_part kept 0 n (omega (arith, c.keep_passing-n.ensures.few, c.requires.few, c.keep_passing-n.array_long)) in
    let all = items_from_part items 0 (length items) (omega arith) ∙ take-length items in
    rw (front, all) at (c.keep_passing-n.ensures.same (Some c.args.given))

pub found-requires-clause-item : goal.found-requires-clause-item
found-requires-clause-item c =
    let n = c.keep_passing-n.result in
    let within = simp length-take at c.loop-t-test.true in
    rw (get_or-take n c.keep_passing-n.new.kept c.loop-t.t-index 0 (omega (arith, within))) (c.keep_passing-n.ensures.each c.loop-t.t-index (omega (arith, within))).0

pub found-requires-clause-passes : goal.found-requires-clause-passes
found-requires-clause-passes c =
    let n = c.keep_passing-n.result in
    let within = simp length-take at c.loop-t-test.true in
    rw (get_or-take n c.keep_passing-n.new.kept c.loop-t.t-index 0 (omega (arith, within))) (c.keep_passing-n.ensures.each c.loop-t.t-index (omega (arith, within))).1

pub loop-t-preserved : goal.loop-t-preserved
unfolding cast_over
loop-t-preserved c =
    let front = take c.keep_passing-n.result c.keep_passing-n.new.kept in
    let next = rw (drop-cons front c.loop-t.t-index 0 c.loop-t-test.true) at c.loop-t.invariant in
    rw (add-one c.loop-t.t-index, c.in_ok-parity.ensures, c.found.ensures) next

pub returns-in_err-parity : goal.returns-in_err-parity
unfolding cast_over
returns-in_err-parity c =
    let front = take c.keep_passing-n.result c.keep_passing-n.new.kept in
    let next = rw (drop-cons front c.loop-t.t-index 0 c.loop-t-test.true) at c.loop-t.invariant in
    let find = found c.args.mesh.now c.args.self.now.origin c.args.self.now.direction in
    let rest = drop (suc c.loop-t.t-index) front in
    let step : cast_over find None rest ≡ cast_over find (Some c.loop-t.parity) (get_or front c.loop-t.t-index 0 ∷ rest) = rw (c.in_err-parity.ensures, c.found.ensures) refl in
    rw c.from_residual.ensures (sym (cast_over_none find rest) ∙ step ∙ next)

pub returns : goal.returns
unfolding cast_over
returns c = rw (drop_of_length-le (take c.keep_passing-n.result c.keep_passing-n.new.kept) {i = c.loop-t.t-index} c.loop-t-test.false) at c.loop-t.invariant
