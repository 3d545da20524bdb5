-- `read_field` meets its contract: what stands behind the blanks is a number, with a minus in front of it or none (`number_of_next`).
use Rattle.std.proofs.Common.{◌≡◌, ℕ, ◌-◌, ◌≤◌, ◌<◌, List, [], length, get_or, take, drop, length-drop, drop_of_length-le, take_all, arith, sym, ◌∙◌, eq-eqb, ne_eqb}
use Rattle.text.specs.Fields.{without_blanks, number_of, field_of}
use Rattle.text.specs.laws.FieldLaws.{number_of_next}
use Rattle.text.proofs.fields.read_field.Goals as goal

module _ (field : List ℕ) (i : ℕ) (within : i ≤ length field) (behind : drop i field ≡ without_blanks field) where
  -- what is cut off behind the blanks
  cut : take (length field - i) (drop i field) ≡ without_blanks field
  cut = take_all (length field - i) (drop i field) (omega (arith, length-drop i field)) ∙ behind

  cut_empty : length (take (length field - i) (drop i field)) < 1 → without_blanks field ≡ []
  cut_empty h = sym cut ∙ drop_of_length-le (take (length field - i) (drop i field)) {i = 0} (omega arith)

pub returns-in-empty : goal.returns-in-empty
unfolding field_of number_of
returns-in-empty c = rw (cut_empty c.args.field.now c.skip_blanks.result c.skip_blanks.ensures.0 c.skip_blanks.ensures.1 c.in-empty.len_below)

pub returns-in-45 : goal.returns-in-45
unfolding field_of
returns-in-45 c =
    let field = c.args.field.now in
    let i = c.skip_blanks.result in
    let found = take (length field - i) (drop i field) in
    let minus : get_or found 0 0 ≡ 45 = omega arith in
    rw (← cut field i c.skip_blanks.ensures.0 c.skip_blanks.ensures.1, number_of_next found 0 c.in-45.len_at_least, eq-eqb _ _ minus)
    (rw (take_all (length found - 1) (drop 1 found) (omega (arith, length-drop 1 found))) at c.magnitude_of.ensures)

pub returns-in_default : goal.returns-in_default
unfolding field_of
returns-in_default c =
    let field = c.args.field.now in
    let i = c.skip_blanks.result in
    let found = take (length field - i) (drop i field) in
    let other : get_or found 0 0 ≡ 45 → ⊥ = λ e. omega (arith, e) in
    rw (← cut field i c.skip_blanks.ensures.0 c.skip_blanks.ensures.1, number_of_next found 0 c.in_default.len_at_least, ne_eqb _ _ other) c.magnitude_of-in_default.ensures
