-- The laws of listings: each line has 10 bytes, and one more answer is one more row.
use Rattle.std.specs.Prelude.{ℕ, zero, suc, ◌+◌, ◌-◌, ◌*◌, ◌/◌, ◌≤◌, ◌<◌, ◌≡◌, refl, Bool, true, false, cond, List, [], ◌∷◌, ◌++◌, eqb, length, get_or, take, drop, set}
use Rattle.std.proofs.Common.{arith, add-zero, zero-add, add-one, ◌∙◌, append-nil, append_assoc, length-append, length-take, drop_of_length-le, take-suc, length-take-le, take_at, drop_at, drop-drop, drop-cons}
use Rattle.std.proofs.lemmas.List.{length-replicate}
use Rattle.std.proofs.Math.Seq.{set-append_seam}
use Rattle.lent.specs.Over.{over}
use Rattle.lent.specs.laws.OverLaws.{over_whole, over_on}
use Rattle.text.specs.Fields.{line_feed, before, field_text}
use Rattle.text.specs.Listing.{listing_line, header, rows, listing_text, listing_length}

-- a field has its width
pub length_before : (negative : Bool) (width : ℕ) → length (before negative width) ≡ width
unfolding before
length_before negative zero = refl
length_before negative (suc width) = simp (length-append, length-replicate) (omega arith)

either : (width : ℕ) (t : Bool) (a b : List ℕ) → length a ≡ width → length b ≡ width → length (cond t a b) ≡ width
either width true a b e f = e
either width false a b e f = f

pub length_field : (negative : Bool) (width n : ℕ) → length (field_text negative width n) ≡ width
unfolding field_text
length_field negative zero n = refl
length_field negative (suc width) n =
    let front = either width (eqb (n / 10) 0) (before negative width) (field_text negative width (n / 10)) (length_before negative width) (length_field negative width (n / 10)) in
    simp length-append (rw front (omega arith))

-- a line of a listing has 10 bytes
pub length_line : (width a b : ℕ) → width ≤ 9 → length (listing_line width a b) ≡ 10
unfolding listing_line
length_line width a b h = simp length-append (rw (length_field false width a, length_field false (9 - width) b) (omega arith))

-- a line of a listing is written as its two fields one behind the other, and then the line feed
pub line_written : (width a b : ℕ) (line : List ℕ) → width ≤ 9 → length line ≡ 10
    → set (take width (field_text false width a ++ drop width line) ++ (field_text false (9 - width) b ++ drop (9 - width) (drop width (field_text false width a ++ drop width line)))) 9 line_feed ≡ listing_line width a b
unfolding listing_line
line_written width a b line h e =
    let first = field_text false width a in
    let second = field_text false (9 - width) b in
    let long : length (first ++ second) ≡ 9 = simp length-append (omega (arith, length_field false width a, length_field false (9 - width) b)) in
    let seam : width + (9 - width) ≡ 9 = omega arith in
    let last : drop 9 line ≡ get_or line 9 0 ∷ [] = drop-cons line 9 0 (omega arith) ∙ rw (drop_of_length-le line {i = 10} (omega arith)) in
    let fed = set-append_seam (first ++ second) (get_or line 9 0) [] line_feed in
    rw (
      take_at first (drop width line) width (length_field false width a),
      drop_at first (drop width line) width (length_field false width a),
      drop-drop (9 - width) width line,
      seam,
      last,
      ← append_assoc,
    ) (rw long at fed ∙ append_assoc first second (line_feed ∷ []))

-- the rows of more answers: those of the first, and then those of the rest
pub rows_append : (point : ℕ) (first rest : List ℕ) → rows point (first ++ rest) ≡ rows point first ++ rows (point + length first) rest
unfolding rows
rows_append point [] rest = rw (add-zero point)
rows_append point (answer ∷ first) rest =
    let place : point + 1 + length first ≡ point + suc (length first) = omega arith in
    rw (rows_append (point + 1) first rest, append_assoc, place)

pub length_rows : (point : ℕ) (answers : List ℕ) → length (rows point answers) ≡ 10 * length answers
unfolding rows
length_rows point [] = refl
length_rows point (answer ∷ rest) =
    simp length-append (rw (length_line 6 point answer (omega arith), length_rows (point + 1) rest) (omega arith))

-- one more row
pub rows_next : (answers : List ℕ) (i : ℕ) → i < length answers → rows 0 (take (i + 1) answers) ≡ rows 0 (take i answers) ++ listing_line 6 i (get_or answers i 0)
unfolding rows
rows_next answers i h =
    rw (add-one i, take-suc answers i 0 h, rows_append 0 (take i answers) (get_or answers i 0 ∷ []), length-take-le i answers (omega arith), zero-add i, append-nil)

-- a line written behind the rows of the first i answers is one more row
pub rows_written : (answers old : List ℕ) (i : ℕ) → i < length answers
    → take (10 * i) (over (rows 0 (take i answers)) old) ++ (listing_line 6 i (get_or answers i 0) ++ drop 10 (drop (10 * i) (over (rows 0 (take i answers)) old))) ≡ over (rows 0 (take (i + 1) answers)) old
rows_written answers old i h =
    let done = rows 0 (take i answers) in
    let line = listing_line 6 i (get_or answers i 0) in
    let before : length done ≡ 10 * i = length_rows 0 (take i answers) ∙ rw (length-take-le i answers (omega arith)) in
    let long = length_line 6 i (get_or answers i 0) (omega arith) in
    let full = over_whole line (take 10 (drop (10 * i) (over done old))) (simp length-take (omega (arith, long))) in
    rw (rows_next answers i h) (rw full at (over_on done line old (10 * i) 10 before long))

-- a listing has the bytes that its answers ask for
pub length_listing : (answers : List ℕ) → length (listing_text answers) ≡ listing_length (length answers)
unfolding listing_text listing_length header
length_listing answers = simp length-append (rw (length_line 3 0 0 (omega arith), length_rows 0 answers))
