use Prim.Native.Nat.{◌/◌}
use native.Mathlib.Omega.{arith}
use mathlib.Core.Path.{◌≡◌, refl, sym, ◌∙◌}
use lib.ListN.{length, length-set}
use Rattle.lent.specs.laws.OverLaws.{over_nothing}
use Rattle.polyhedron.specs.laws.ListLaws.{answers_next, answers_all}
use Rattle.polyhedron.proofs.lists.answer_points.Goals as goal

pub loop-i-init : goal.loop-i-init
loop-i-init c = (refl, sym (over_nothing _))

pub answer-requires : goal.answer-requires
answer-requires c = rw c.at-p.ensures (c.requires.finite c.loop-i.i (omega (arith, c.requires.enough)))

pub loop-i-preserved : goal.loop-i-preserved
loop-i-preserved c =
    let s = c.loop-i in
    let next = answers_next c.args.prepared.now c.args.points.now c.args.answers.now s.i c.requires.enough (omega (arith, c.requires.enough)) in
    (simp length-set s.invariant.0, rw (s.invariant.1, c.byte.ensures, c.answer.ensures, c.at-p.ensures) next)

pub returns : goal.returns
returns c =
    let all : c.loop-i.i ≡ length c.args.points.now / 3 = omega (arith, c.loop-i-test.false, c.loop-i.auto.i-end, c.requires.enough) in
    rw all at c.loop-i.invariant.1 ∙ answers_all c.args.prepared.now c.args.points.now c.args.answers.now c.requires.enough
