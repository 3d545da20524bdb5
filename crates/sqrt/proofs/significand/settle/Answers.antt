-- `significand::settle` meets its contract: the three answers are the candidates' laws on the difference u, which `difference` puts together from its parts.
use mathlib.Core.Path.{◌≡◌}
use Prim.Native.Nat.{◌+◌, ◌*◌, ◌^◌}
use native.Mathlib.Omega.{arith}
use Rattle.sqrt.proofs.Settling.{difference, first_candidate, second_candidate, third_candidate}
use Rattle.sqrt.proofs.significand.settle.Goals as goal
use Rattle.sqrt.proofs.significand.settle.Goals.{Else-u-eq0}

-- past the last test for a p far off, u is the difference
past : (c : Else-u-eq0) → let p = c.args.p in let w = c.args.w in c.in_ok-u.u + p * p ≡ w * 2 ^ 52 + p
past c = difference c.args.p c.args.w c.in_ok-t.t c.in_ok-d.d c.in_ok-u.u c.in_ok-t.ensures c.in_ok-d.ensures c.in_ok-u.ensures

pub returns-then-u-p : goal.returns-then-u-p
returns-then-u-p c = first_candidate _ _ _ c.if-w-ge18014398509481984.false (past c.before) (omega arith) c.if-u-p.true

pub returns-then-u-p-2 : goal.returns-then-u-p-2
returns-then-u-p-2 c = second_candidate _ _ _ c.if-w-ge18014398509481984.false (past c.before.before) c.if-u-p.false c.if-u-p-2.true

pub returns-then-u-p-3 : goal.returns-then-u-p-3
returns-then-u-p-3 c = third_candidate _ _ _ c.if-w-ge18014398509481984.false (past c.before.before.before) c.if-u-p-2.false c.if-u-p-3.true
