-- Every number that `csx_point_list` returns can be read back (`Rattle.refusal.specs.laws.Places`): the place of each refusal is below 1,000,000,
-- and a listing has at most 5,130 bytes.
use Rattle.std.specs.Prelude.{ℕ, ◌+◌, ◌≤◌, ◌≡◌, refl, Bool, true, false, cond, Option, Result, Ok, Err, List, [], ◌∷◌, leb, length}
use Rattle.std.proofs.Common.{arith, ap}
use Rattle.refusal.specs.declared.Refusal.TheVariants as Refusals
use Rattle.refusal.specs.Verdicts.{Verdict, written}
use Rattle.refusal.specs.laws.Places.{Below, below_refused}
use Rattle.mesh.specs.laws.Places.{below_room}
use Rattle.polyhedron.specs.PointLists.{answers_to}
use Rattle.polyhedron.specs.laws.ListLaws.{length_answers_to}
use Rattle.text.specs.declared.Kind.{Kind}
use Rattle.text.specs.declared.Counts.{Counts}
use Rattle.text.specs.Lines.{kind_of, none, lines_in, may_follow, counted, lines, judge}
use Rattle.text.specs.laws.LineLaws.{counted_next}
use Rattle.text.specs.Listing.{listing_length}
use Rattle.text.specs.laws.ListingLaws.{length_listing}
use Rattle.column.specs.Column.{mesh_of, points_of, ask_column, judged_verdict, column_listing, judged, column_verdict, column_answer}
use Rattle.column.specs.laws.CallLaws.{has, length_points_of}

-- the line that a judged text names, 0 if all are good
abbrev line_in : Result Counts ℕ → ℕ
line_in (Err n) = n
line_in (Ok counts) = 0

-- the first bad line is one of 1,025
bad_next : (first n : ℕ) (done : Counts) (kind : Option Kind) (rest : Result Counts ℕ) (follows : Bool) → may_follow done kind ≡ follows → cond follows rest (Err (first + lines_in done)) ≡ Err n → lines_in done ≤ 1024
    → (rest ≡ Err n → lines_in (counted done kind) ≤ 1024 → n ≤ first + 1024) → n ≤ first + 1024
bad_next first n done kind rest true f e h ih =
    let next = counted_next done kind f in
    ih e (omega (arith, next.0, next.1))
bad_next first n done kind rest false f e h ih =
    let here : first + lines_in done ≡ n = ap line_in e in
    omega (arith, here, h)

bad_line : (first : ℕ) (done : Counts) (l : List (List ℕ)) (n : ℕ) → judge first done l ≡ Err n → lines_in done ≤ 1024 → n ≤ first + 1024
unfolding judge
bad_line first done [] n e h =
    let none_bad : 0 ≡ n = ap line_in e in
    omega (arith, none_bad)
bad_line first done (line ∷ l) n e h =
    bad_next first n done (kind_of line) _ (may_follow done (kind_of line)) refl e h (bad_line first (counted done (kind_of line)) l n)

below_judged : (j : Result Counts ℕ) (l : List (List ℕ)) (room : ℕ) → ((n : ℕ) → j ≡ Err n → n ≤ 1025) → Below (judged_verdict j l room)
unfolding judged_verdict ask_column
below_judged (Err n) l room bad = below_refused (Refusals.Line n) (omega (arith, bad n refl))
below_judged (Ok counts) l room bad = below_room (mesh_of counts l) (leb (listing_length counts.points) room)

pub below_column : (text : List ℕ) (room : ℕ) → Below (column_verdict text room)
unfolding column_verdict judged none lines_in
below_column text room = below_judged (judged text) (lines text) room (λ n e. bad_line 1 none (lines text) n e (omega arith))

-- the listing has at most 5,130 bytes
written_length : (v : Verdict) (l : List ℕ) (n : ℕ) → length l ≤ n → length (written v l) ≤ n
unfolding written
written_length (Ok passed) l n h = h
written_length (Err refusal) l n h = omega arith

listing_length_lem : (text : List ℕ) (j : Result Counts ℕ) → judged text ≡ j → length (column_listing j (lines text)) ≤ 5130
unfolding column_listing listing_length
listing_length_lem text (Err n) e = omega arith
listing_length_lem text (Ok counts) e =
    let answers = answers_to (mesh_of counts (lines text)) (points_of counts (lines text)) in
    let count = length_answers_to (mesh_of counts (lines text)) (points_of counts (lines text)) in
    omega (arith, length_listing answers, count, length_points_of text counts e, (has text counts e).limits.points)

pub bytes_below : (text : List ℕ) (room : ℕ) → length (column_answer text room) ≤ 5130
unfolding column_answer
bytes_below text room = written_length (column_verdict text room) _ 5130 (listing_length_lem text (judged text) refl)
