-- `write_field` meets its contract: each round stores the last digit of what is left.
use Rattle.std.proofs.Common.{rules, ◌≡◌, ◌+◌, ◌-◌, ◌/◌, ◌%◌, arith, sym, ◌∙◌, false, ◌++◌, length, take, drop, set, replicate, length-take, length-set}
use borrow.Author.Tests.{eq-eqb, ne_eqb}
use Rattle.text.specs.Fields.{blank, field_text}
use Rattle.text.specs.laws.FieldLaws.{before_blanks, field_text_next}
use Rattle.text.proofs.fields.write_field.Goals as goal

pub returns-then-rest-eq0 : goal.returns-then-rest-eq0
returns-then-rest-eq0 c =
    let s = c.loop-i in
    let i = s.i - 1 in
    let again : i + 1 ≡ s.i = omega arith in
    let front : length (take i (set s.field i (48 + s.rest % 10))) ≡ i = simp (length-take, length-set) (omega arith) in
    let blanks : c.fill.new.self ≡ replicate i blank = rw front at (c.fill.ensures.after (λ y k. search rules)) in
    let last : field_text false s.i s.rest ++ drop s.i s.field ≡ replicate i blank ++ drop i (set s.field i (48 + s.rest % 10)) =
    rw (eq-eqb _ _ c.if-rest-eq0.true, before_blanks i, again) at (field_text_next false i s.rest s.field (omega arith)) in
    rw blanks (sym last ∙ s.invariant)

pub loop-i-preserved : goal.loop-i-preserved
loop-i-preserved c =
    let s = c.loop-i in
    let i = s.i - 1 in
    let again : i + 1 ≡ s.i = omega arith in
    let last : field_text false s.i s.rest ++ drop s.i s.field ≡ field_text false i (s.rest / 10) ++ drop i (set s.field i (48 + s.rest % 10)) =
    rw (ne_eqb _ _ c.if-rest-eq0.false, again) at (field_text_next false i s.rest s.field (omega arith)) in
    sym last ∙ s.invariant

pub returns : goal.returns
unfolding field_text
returns c =
    let s = c.loop-i in
    let none : s.i ≡ 0 = omega arith in
    rw none at s.invariant
