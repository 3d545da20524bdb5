-- The laws of what the numbers of a text become: the loops that write them, and that floats are the counts unchanged.
use Rattle.std.specs.Prelude.{ℕ, zero, suc, ◌+◌, ◌*◌, ◌/◌, ◌≤◌, ◌<◌, ◌≡◌, Bool, true, false, Option, Some, None, Float, length, get_or, take, drop, set}
use Rattle.std.proofs.Common.{add-zero, zero-add, suc-add, arith, sym, ◌∙◌, true≢false, length-take-le, leb-true}
use Rattle.std.proofs.Math.Path.{refl}
use mathlib.Core.List.{List, [], ◌∷◌, ◌++◌}
use Rattle.std.specs.Simd.{first_chunks}
use Rattle.std.specs.Float.{nan, inf, fin, binary64}
use Rattle.std.specs.Float.Ieee.{neg, of_int}
use Rattle.std.specs.Float.Ieee.Exact.{HasValue}
use Rattle.std.specs.Float.Ieee.Back.{round_whole}
use Rattle.refusal.specs.Verdicts.{Passed}
use Rattle.float.specs.Rules.{is_finite}
use Rattle.math.specs.Vectors as Vectors
use Rattle.math.specs.Vectors.{points}
use Rattle.refusal.specs.declared.Refusal.{Refusal}
use Rattle.mesh_questions.specs.MeshQuestions.{ask_finite}
use Rattle.lent.specs.Every.{Every}
use Rattle.lent.specs.laws.ReorderedLaws.{every_at}
use Rattle.lent.specs.Over.{over}
use Rattle.lent.specs.laws.OverLaws.{over_behind, over_part, over_three, over_next, length_over}
use Rattle.text.specs.declared.fields.Number.{Number}
use Rattle.text.specs.Fields.{number}
use Rattle.text.specs.Lines.{number_at, lines_of, lines, is_count, all_three}
use Rattle.text.specs.steps.LineAt.{line_at}
use Rattle.text.specs.laws.LineLaws.{lines_next, length_lines, lines_get}
use Rattle.text.specs.laws.GoodTexts.{three}
use Rattle.column.specs.Numbers.{float_of, numbers_of, ends_from}
use Rattle.column.specs.steps.Whole.{Whole}

-- the chunks of a text of whole lines are its lines
chunks_are_lines : (n : ℕ) (text : List ℕ) → first_chunks 36 n text ≡ lines_of n text
unfolding lines_of
chunks_are_lines zero text = refl
chunks_are_lines (suc n) text = rw (chunks_are_lines n (drop 36 text))

pub whole_chunks : (text : List ℕ) → length text ≡ 36 * (length text / 36) → first_chunks 36 (length text / 36) text ≡ lines text
unfolding lines
whole_chunks text whole =
    let count : (length text + 35) / 36 ≡ length text / 36 = omega (arith, whole) in
    rw count (chunks_are_lines (length text / 36) text)

pub chunk_at : (text : List ℕ) (chunks : List (List ℕ)) (i : ℕ) → chunks ≡ first_chunks 36 (length text / 36) text → length text ≡ 36 * (length text / 36) → i < length text / 36 → get_or chunks i [] ≡ line_at text i
chunk_at text chunks i e whole h = rw (e, whole_chunks text whole) (lines_get text i (omega (arith, whole)))

-- and the numbers of each pass the test that they are taken to pass
pub chunk_passes : (test : Option Number → Bool) {places : ℕ} (text : List ℕ) (chunks : List (List ℕ)) (i : ℕ) → Whole test text places → chunks ≡ first_chunks 36 (length text / 36) text → i < length chunks
    → (test (number_at 0 (get_or chunks i [])) ≡ true) × (test (number_at 1 (get_or chunks i [])) ≡ true) × (test (number_at 2 (get_or chunks i [])) ≡ true)
chunk_passes test text chunks i w e h =
    let count : length chunks ≡ length text / 36 = rw (e, whole_chunks text w.whole) (omega (arith, length_lines text, w.whole)) in
    let below : i < length text / 36 = omega (arith, count) in
    rw (chunk_at text chunks i e w.whole below) (three test (line_at text i) (w.each i below).1)

module _ {A : Type 0} (become : Option Number → A) where
  -- lines one behind the other
  pub numbers_append : (a b : List (List ℕ)) → numbers_of become (a ++ b) ≡ numbers_of become a ++ numbers_of become b
  unfolding numbers_of
  numbers_append [] b = refl
  numbers_append (line ∷ a) b = rw (numbers_append a b)

  -- three numbers a line
  pub length_numbers : (l : List (List ℕ)) → length (numbers_of become l) ≡ 3 * length l
  unfolding numbers_of
  length_numbers [] = refl
  length_numbers (line ∷ l) = omega (arith, length_numbers l)

  -- the numbers of the first i lines and those of line i
  pub numbers_next : (text : List ℕ) (i : ℕ) → 36 * i < length text
      → numbers_of become (take (i + 1) (lines text)) ≡ numbers_of become (take i (lines text)) ++ (become (number_at 0 (line_at text i)) ∷ become (number_at 1 (line_at text i)) ∷ become (number_at 2 (line_at text i)) ∷ [])
  unfolding numbers_of
  numbers_next text i h = rw (lines_next text i h) (numbers_append (take i (lines text)) (line_at text i ∷ []))

  -- the numbers of line i stored behind those of the lines before it
  pub numbers_stored : (text : List ℕ) (i : ℕ) (old : List A) → 36 * i < length text → 3 * i + 2 < length old
      → set
      (set (set (over (numbers_of become (take i (lines text))) old) (3 * i) (become (number_at 0 (line_at text i)))) (3 * i + 1) (become (number_at 1 (line_at text i))))
      (3 * i + 2) (become (number_at 2 (line_at text i)))
      ≡ over (numbers_of become (take (i + 1) (lines text))) old
  numbers_stored text i old h k =
      let done = numbers_of become (take i (lines text)) in
      let a = become (number_at 0 (line_at text i)) in
      let b = become (number_at 1 (line_at text i)) in
      let c = become (number_at 2 (line_at text i)) in
      let few = length-take-le i (lines text) (omega (arith, length_lines text)) in
      let long : 3 * i ≡ length done = omega (arith, length_numbers (take i (lines text)), few) in
      let stored = over_three (3 * i) (over done old) a b c (omega (arith, length_over done old (omega (arith, long)))) in
      rw (numbers_next text i h) (sym stored ∙ over_behind (3 * i) done (a ∷ b ∷ c ∷ []) old long)

  -- and so are they where they are written as one part of the list
  pub numbers_written : (text : List ℕ) (i : ℕ) (old : List A) (width : ℕ) (part : List A) → 36 * i < length text → 3 * i + 2 < length old → width ≡ 3
      → part ≡ become (number_at 0 (line_at text i)) ∷ become (number_at 1 (line_at text i)) ∷ become (number_at 2 (line_at text i)) ∷ []
      → take (3 * i) (over (numbers_of become (take i (lines text))) old) ++ (part ++ drop width (drop (3 * i) (over (numbers_of become (take i (lines text))) old))) ≡ over (numbers_of become (take (i + 1) (lines text))) old
  numbers_written text i old width part h k wide same =
      let done = numbers_of become (take i (lines text)) in
      let few = length-take-le i (lines text) (omega (arith, length_lines text)) in
      let long : 3 * i ≡ length done = omega (arith, length_numbers (take i (lines text)), few) in
      let room = length_over done old (omega (arith, long)) in
      over_part (3 * i) width (over done old) part _ (omega (arith, room)) wide same ∙ over_three (3 * i) (over done old) _ _ _ (omega (arith, room)) ∙ numbers_stored text i old h k

-- one more triangle has three more corners
pub ends_next : (corners i : ℕ) → ends_from corners (i + 1) ≡ ends_from corners i ++ ((corners + 3 * i + 3) ∷ [])
unfolding ends_from
ends_next corners zero = rw (add-zero corners)
ends_next corners (suc i) =
    let last : corners + 3 + 3 * i + 3 ≡ corners + 3 * suc i + 3 = omega arith in
    rw (suc-add i 1, ends_next (corners + 3) i, last)

pub length_ends : (corners triangles : ℕ) → length (ends_from corners triangles) ≡ triangles
unfolding ends_from
length_ends corners zero = refl
length_ends corners (suc triangles) = omega (arith, length_ends (corners + 3) triangles)

-- the end of triangle i stored behind those before it
pub ends_stored : (i : ℕ) (old : List ℕ) → i < length old → set (over (ends_from 0 i) old) i (3 * i + 3) ≡ over (ends_from 0 (i + 1)) old
ends_stored i old h =
    let next = over_next (ends_from 0 i) old (3 * i + 3) (omega (arith, length_ends 0 i)) in
    rw (ends_next 0 i, zero-add (3 * i)) (sym (rw (length_ends 0 i) at next))

-- a count of nanometres is a float unchanged: it has the value of the count
neg_value : (x : Float) (magnitude : ℕ) → HasValue x false magnitude 1 → HasValue (neg x) true magnitude 1
unfolding neg
neg_value nan magnitude v = v
neg_value (inf s) magnitude v = v
neg_value (fin s m e) magnitude v = (rw v.0, v.1)

pub float_value : (negative : Bool) (magnitude : ℕ) → magnitude ≤ 9999999999 → HasValue (float_of (Some (number negative magnitude))) negative magnitude 1
unfolding float_of of_int
float_value false magnitude h = round_whole binary64 false magnitude (omega arith)
float_value true magnitude h = neg_value _ magnitude (round_whole binary64 false magnitude (omega arith))

-- and so it is finite
value_finite : (x : Float) (negative : Bool) (magnitude : ℕ) → HasValue x negative magnitude 1 → is_finite x ≡ true
unfolding is_finite
value_finite nan negative magnitude v = absurd v
value_finite (inf s) negative magnitude v = absurd v
value_finite (fin s m e) negative magnitude v = refl

pub count_finite : (field : Option Number) → is_count field ≡ true → is_finite (float_of field) ≡ true
unfolding is_count
count_finite None e = absurd (true≢false (sym e))
count_finite (Some count) e =
    value_finite (float_of (Some count)) count.negative count.magnitude (float_value count.negative count.magnitude (leb-true count.magnitude 9999999999 e))

-- the points of lines of counts are finite
finite_lines : (refusal : ℕ → Refusal) (number : ℕ) (l : List (List ℕ)) → Every (λ line. all_three is_count line ≡ true) l → ask_finite refusal number (points (numbers_of float_of l)) ≡ Passed
unfolding numbers_of points ask_finite Vectors.is_finite
finite_lines refusal number [] each = refl
finite_lines refusal number (line ∷ l) each =
    let counts = three is_count line each.0 in
    rw (count_finite (number_at 0 line) counts.0, count_finite (number_at 1 line) counts.1, count_finite (number_at 2 line) counts.2) (finite_lines refusal (number + 1) l each.1)

pub finite_section : (refusal : ℕ → Refusal) {places : ℕ} (text : List ℕ) → Whole is_count text places → ask_finite refusal 0 (points (numbers_of float_of (lines text))) ≡ Passed
finite_section refusal text w =
    finite_lines refusal 0 (lines text) (every_at (λ line. all_three is_count line ≡ true) (lines text) [] (λ k h. rw (lines_get text k (omega (arith, length_lines text, w.whole))) (w.each k (omega (arith, length_lines text, w.whole))).1))
