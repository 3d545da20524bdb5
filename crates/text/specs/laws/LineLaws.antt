-- The laws of the lines of a text: where each begins, and what one more line adds to the counts.
use Rattle.std.specs.Prelude.{ℕ, zero, suc, min, ◌+◌, ◌-◌, ◌*◌, ◌/◌, ◌≤◌, ◌<◌, ◌≡◌, refl, Bool, true, false, cond, ◌&&◌, Option, Some, None, Err, List, [], ◌∷◌, ◌++◌, ltb, length, get_or, take, drop}
use Rattle.std.proofs.Common.{arith, sym, ◌∙◌, length-drop, length-append, length-take-le, drop-cons, drop-drop, take-take, take-add, take_at, drop_at, ltb-true, ap, append-nil, take_all, drop_of_length-le, inl, inr}
use Rattle.std.proofs.lemmas.Bool.{cases_lt}
use Rattle.std.proofs.lemmas.List.{nil_from_length}
use Rattle.refusal.specs.laws.VerdictLaws.{both}
use Rattle.text.specs.declared.Kind.{Kind}
use Rattle.text.specs.declared.Kind.TheVariants as Kinds
use Rattle.text.specs.declared.Counts.{Counts}
use Rattle.text.specs.Lines.{kind_of, lines_of, lines, lines_in, fits, may_follow, counted, judge}
use Rattle.text.specs.steps.LineAt.{line_at}

-- an empty text has no lines
pub lines_nil : (text : List ℕ) → length text ≡ 0 → lines text ≡ []
unfolding lines lines_of
lines_nil text e = rw e

-- any other has a first line and those behind it
pub lines_cons : (text : List ℕ) → 0 < length text → lines text ≡ take 36 text ∷ lines (drop 36 text)
unfolding lines lines_of
lines_cons text h =
    let more : (length text + 35) / 36 ≡ suc ((length (drop 36 text) + 35) / 36) = omega (arith, length-drop 36 text) in
    rw more

-- judging goes on with the line that begins at this byte
pub judge_next : (first : ℕ) (counts : Counts) (text : List ℕ) (start : ℕ) → start < length text
    → judge first counts (lines (drop start text))
    ≡ cond (may_follow counts (kind_of (take 36 (drop start text))))
    (judge first (counted counts (kind_of (take 36 (drop start text)))) (lines (drop (start + 36) text)))
    (Err (first + lines_in counts))
unfolding judge
judge_next first counts text start h =
    rw (lines_cons (drop start text) (omega (arith, length-drop start text)), drop-drop 36 start text)

-- and with the first chunk of 36 bytes, or of what is left
pub judge_chunk : (first : ℕ) (counts : Counts) (text line rest : List ℕ) → text ≡ line ++ rest → length line ≡ min 36 (length text) → 0 < length text
    → judge first counts (lines text) ≡ cond (may_follow counts (kind_of line)) (judge first (counted counts (kind_of line)) (lines rest)) (Err (first + lines_in counts))
judge_chunk first counts text line rest parts long h =
    let sum = ap length parts ∙ length-append line rest in
    let cut : (take 36 text ≡ line) × (drop 36 text ≡ rest) =
    elim (cases_lt (length text) 36) [
      | inl short ↦
          let none : rest ≡ [] = nil_from_length rest (omega arith) in
          rw (parts, none, append-nil) (take_all 36 line (omega arith), drop_of_length-le line {i = 36} (omega arith))
      | inr enough ↦
          let width : length line ≡ 36 = omega arith in
          rw parts (take_at line rest 36 width, drop_at line rest 36 width)
    ] in
    let next = judge_next first counts text 0 h in
    rw (cut.0, cut.1) at next

-- a bad line may not follow
pub bad_refused : (counts : Counts) → may_follow counts None ≡ false
unfolding may_follow fits
bad_refused counts = neither (ltb (lines_in counts) 1024)
  where
    neither : (t : Bool) → (t && false) ≡ false
    neither true = refl
    neither false = refl

-- a line that may follow is one more, and there are no more than 1,024
pub counted_next : (counts : Counts) (kind : Option Kind) → may_follow counts kind ≡ true → (lines_in counts < 1024) × (lines_in (counted counts kind) ≡ lines_in counts + 1)
unfolding may_follow fits lines_in counted
counted_next counts kind e =
    let parts = both (ltb (lines_in counts) 1024) (fits counts kind) e in
    (ltb-true _ _ parts.0, more kind parts.1)
  where
    more : (kind : Option Kind) → fits counts kind ≡ true → lines_in (counted counts kind) ≡ lines_in counts + 1
    more None e = cc
    more (Some Kinds.Vertex) e = omega arith
    more (Some Kinds.Triangle) e = omega arith
    more (Some Kinds.Point) e = omega arith

-- how many lines a text has
length_lines_of : (n : ℕ) (text : List ℕ) → length (lines_of n text) ≡ n
unfolding lines_of
length_lines_of zero text = refl
length_lines_of (suc n) text = omega (arith, length_lines_of n (drop 36 text))

pub length_lines : (text : List ℕ) → length (lines text) ≡ (length text + 35) / 36
unfolding lines
length_lines text = length_lines_of ((length text + 35) / 36) text

-- the lines behind the first n
pub lines_drop : (n : ℕ) (text : List ℕ) → 36 * n ≤ length text → lines (drop (36 * n) text) ≡ drop n (lines text)
lines_drop zero text h = refl
lines_drop (suc n) text h =
    let start : 36 * suc n ≡ 36 + 36 * n = omega arith in
    let rest = lines_drop n (drop 36 text) (omega (arith, length-drop 36 text)) in
    rw (start, ← drop-drop (36 * n) 36 text, lines_cons text (omega arith)) rest

-- the first n lines
pub lines_take : (n : ℕ) (text : List ℕ) → 36 * n ≤ length text → lines (take (36 * n) text) ≡ take n (lines text)
lines_take zero text h = lines_nil (take (36 * 0) text) refl
lines_take (suc n) text h =
    let end : 36 * suc n ≡ 36 + 36 * n = omega arith in
    let rest = lines_take n (drop 36 text) (omega (arith, length-drop 36 text)) in
    let first : length (take 36 text) ≡ 36 = length-take-le 36 text (omega arith) in
    let some : 0 < length (take 36 text ++ take (36 * n) (drop 36 text)) = simp length-append (omega (arith, first)) in
    rw (
      end,
      take-add 36 (36 * n) text,
      lines_cons (take 36 text ++ take (36 * n) (drop 36 text)) some,
      take_at (take 36 text) (take (36 * n) (drop 36 text)) 36 first,
      drop_at (take 36 text) (take (36 * n) (drop 36 text)) 36 first,
      rest,
      lines_cons text (omega arith),
    )

-- the first i lines and line i
pub lines_next : (text : List ℕ) (i : ℕ) → 36 * i < length text → take (i + 1) (lines text) ≡ take i (lines text) ++ (line_at text i ∷ [])
unfolding line_at
lines_next text i h =
    let rest = lines_cons (drop (36 * i) text) (omega (arith, length-drop (36 * i) text)) in
    rw (take-add i 1 (lines text), ← lines_drop i text (omega arith), rest)

-- line i of the list of lines
pub lines_get : (text : List ℕ) (i : ℕ) → 36 * i < length text → get_or (lines text) i [] ≡ line_at text i
unfolding line_at
lines_get text i h =
    let some : i < length (lines text) = omega (arith, length_lines text) in
    let there : get_or (lines text) i [] ∷ drop (suc i) (lines text) ≡ take 36 (drop (36 * i) text) ∷ lines (drop 36 (drop (36 * i) text)) =
    sym (drop-cons (lines text) i [] some) ∙ sym (lines_drop i text (omega arith)) ∙ lines_cons (drop (36 * i) text) (omega (arith, length-drop (36 * i) text)) in
    cc

-- line i of n lines behind the first k
pub section_line : (text : List ℕ) (k n i : ℕ) → i < n → 36 * (k + n) ≤ length text → line_at (take (36 * n) (drop (36 * k) text)) i ≡ line_at text (k + i)
unfolding line_at
section_line text k n i h long =
    let rest = drop (36 * k) text in
    let cut : 36 * n ≡ 36 * i + 36 * (n - i) = omega arith in
    let front : length (take (36 * i) rest) ≡ 36 * i = length-take-le (36 * i) rest (omega (arith, length-drop (36 * k) text)) in
    let start : 36 * k + 36 * i ≡ 36 * (k + i) = omega arith in
    rw (
      cut,
      take-add (36 * i) (36 * (n - i)) rest,
      drop_at (take (36 * i) rest) (take (36 * (n - i)) (drop (36 * i) rest)) (36 * i) front,
      take-take 36 (36 * (n - i)) (drop (36 * i) rest) (omega arith),
      drop-drop (36 * i) (36 * k) text,
      start,
    )
