-- `judge_text` meets its contract, line by line.
use Rattle.std.proofs.Common.{rules, ◌≡◌, true, false, Some, None, arith, sym, ◌∙◌}
use Rattle.std.specs.Slice.Iter.{chunks_rest}
use Rattle.text.specs.Lines.{none, lines_in, kind_of, may_follow, judge}
use Rattle.text.specs.laws.LineLaws.{lines_nil, judge_chunk, bad_refused, counted_next}
use Rattle.text.proofs.judge_text.Goals as goal
use Rattle.text.proofs.judge_text.Goals.{in_default-via-in-Some-judge_line+else-may_follow, in_default-via-in_default}

pub loop-line-init : goal.loop-line-init
unfolding none lines_in
loop-line-init c = (search rules, tt, search rules, omega arith, search rules)

pub loop-line-preserved : goal.loop-line-preserved
loop-line-preserved c =
    let line = c.in-Some.line.now in
    let counts = c.loop-line.counts in
    let steps = c.in-Some.ensures.steps in
    let size = c.loop-line.invariant.2 in
    let next = judge_chunk c.args.first counts (chunks_rest c.loop-line.line-iterator) line (chunks_rest c.next.new.self) steps.1.0 (rw size at steps.1.1) steps.1.2 in
    let kind : kind_of line ≡ Some c.in-Some-judge_line.kind = sym c.judge_line.ensures ∙ c.in-Some-judge_line.is in
    let follows : may_follow counts (Some c.in-Some-judge_line.kind) ≡ true = sym c.may_follow.ensures ∙ c.if-may_follow.true in
    let more = counted_next counts (Some c.in-Some-judge_line.kind) follows in
    rw c.counted-counts.ensures (omega (arith, steps.0, size), tt, steps.0 ∙ size, omega (arith, more.0, more.1), sym (rw (kind, follows) at next) ∙ c.loop-line.invariant.4)

pub returns-in_default : goal.returns-in_default
returns-in_default c =
    let line = c.in-Some.line.now in
    let counts = c.loop-line.counts in
    let steps = c.in-Some.ensures.steps in
    let next = judge_chunk c.args.first counts (chunks_rest c.loop-line.line-iterator) line (chunks_rest c.next.new.self) steps.1.0 (rw c.loop-line.invariant.2 at steps.1.1) steps.1.2 in
    elim c.in_default.branch [
      | in_default-via-in-Some-judge_line+else-may_follow w ↦
          let kind : kind_of line ≡ Some w.in-Some-judge_line.kind = sym c.judge_line.ensures ∙ w.in-Some-judge_line.is in
          let refused : may_follow counts (Some w.in-Some-judge_line.kind) ≡ false = sym w.may_follow.ensures ∙ w.if-may_follow.false in
          rw c.lines_in.ensures (sym (rw (kind, refused) at next) ∙ c.loop-line.invariant.4)
      | in_default-via-in_default w ↦
          let bad : kind_of line ≡ None = sym c.judge_line.ensures ∙ w.in_default.is in
          rw c.lines_in.ensures (sym (rw (bad, bad_refused counts) at next) ∙ c.loop-line.invariant.4)
    ]

pub returns : goal.returns
unfolding judge
returns c =
    rw (lines_nil (chunks_rest c.loop-line.line-iterator) c.in-None.ensures.steps.1.0) at c.loop-line.invariant.4
