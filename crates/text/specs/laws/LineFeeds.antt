-- Where the line feeds of a good text stand: each ends one of its lines of 36 bytes, and none stands inside a field, since a field that says a number is blanks, a minus and digits.
use Rattle.std.specs.Prelude.{ℕ, zero, suc, ◌+◌, ◌-◌, ◌*◌, ◌/◌, ◌%◌, ◌<◌, ◌≡◌, refl, Bool, true, false, cond, ◌&&◌, Option, Some, None, Ok, List, [], ◌∷◌, ◌++◌, eqb, length, get_or, take, drop, replicate}
use Rattle.std.proofs.Common.{arith, sym, ◌∙◌, true≢false, eqb-true, inl, inr}
use Rattle.std.proofs.lemmas.Bool.{cases_lt}
use Rattle.std.proofs.lemmas.List.{get_or-take, get_or-drop}
use Rattle.refusal.specs.laws.VerdictLaws.{both}
use Rattle.text.specs.declared.fields.Number.{Number}
use Rattle.text.specs.declared.Kind.{Kind}
use Rattle.text.specs.declared.Kind.TheVariants as Kinds
use Rattle.text.specs.declared.Counts.{Counts}
use Rattle.text.specs.Fields.{blank, line_feed, minus, digit0, before, field_text, field_of}
use Rattle.text.specs.Lines.{number_at, is_count, is_corner, is_of, numbers_fit, kind_named, of_kind, kind_of, lines, none, lines_in, judge}
use Rattle.text.specs.steps.LineAt.{line_at}
use Rattle.text.specs.laws.FieldTheorem.{read_is_written}
use Rattle.text.specs.laws.GoodTexts.{three, good_is, good_line, GoodText, good_text}

-- ---- bytes without a line feed; past the end a read gives 0, which is none

abbrev Unbroken : List ℕ → Type 0
Unbroken l = (k : ℕ) → get_or l k 0 ≡ line_feed → ⊥

unbroken_nil : Unbroken []
unbroken_nil k e = omega (arith, e)

unbroken_one : (b : ℕ) → (b ≡ line_feed → ⊥) → Unbroken (b ∷ [])
unbroken_one b differs zero e = differs e
unbroken_one b differs (suc k) e = omega (arith, e)

unbroken_append : (l m : List ℕ) → Unbroken l → Unbroken m → Unbroken (l ++ m)
unbroken_append [] m p q k e = q k e
unbroken_append (b ∷ l) m p q zero e = p zero e
unbroken_append (b ∷ l) m p q (suc k) e = unbroken_append l m (λ j. p (suc j)) q k e

unbroken_blanks : (n : ℕ) → Unbroken (replicate n blank)
unbroken_blanks zero = unbroken_nil
unbroken_blanks (suc n) = unbroken_append (blank ∷ []) (replicate n blank) (unbroken_one blank (λ e. omega (arith, e))) (unbroken_blanks n)

unbroken_cond : (t : Bool) (l m : List ℕ) → Unbroken l → Unbroken m → Unbroken (cond t l m)
unbroken_cond true l m p q = p
unbroken_cond false l m p q = q

unbroken_before : (negative : Bool) (width : ℕ) → Unbroken (before negative width)
unfolding before
unbroken_before negative zero = unbroken_nil
unbroken_before negative (suc width) = unbroken_append (replicate width blank) _ (unbroken_blanks width) (unbroken_one _ (sign negative))
  where
    sign : (negative : Bool) → cond negative minus blank ≡ line_feed → ⊥
    sign true e = omega (arith, e)
    sign false e = omega (arith, e)

-- what a number is written as
unbroken_field : (negative : Bool) (width n : ℕ) → Unbroken (field_text negative width n)
unfolding field_text
unbroken_field negative zero n = unbroken_nil
unbroken_field negative (suc width) n =
    unbroken_append _ _
    (unbroken_cond (eqb (n / 10) 0) _ _ (unbroken_before negative width) (unbroken_field negative width (n / 10)))
    (unbroken_one (digit0 + n % 10) (λ e. omega (arith, e)))

-- a field that says a number
unbroken_read : (field : List ℕ) (number : Number) → field_of field ≡ Some number → Unbroken field
unbroken_read field number e = rw (read_is_written field number.negative number.magnitude e) (unbroken_field number.negative (length field) number.magnitude)

-- ---- a good line

-- a number that passes a kind's test was read
unbroken_number : (kind : Kind) (field : List ℕ) (said : Option Number) → field_of field ≡ said → is_of kind said ≡ true → Unbroken field
unfolding is_of is_count is_corner
unbroken_number Kinds.Vertex field None e h = absurd (true≢false (sym h))
unbroken_number Kinds.Triangle field None e h = absurd (true≢false (sym h))
unbroken_number Kinds.Point field None e h = absurd (true≢false (sym h))
unbroken_number kind field (Some number) e h = unbroken_read field number e

-- and so was one that names a kind
unbroken_kind : (field line : List ℕ) (said : Option Number) (kind : Kind) → field_of field ≡ said → of_kind (kind_named said) line ≡ Some kind → Unbroken field
unfolding kind_named of_kind
unbroken_kind field line None kind e h = cc
unbroken_kind field line (Some number) kind e h = unbroken_read field number e

module _ (line : List ℕ) (kind : Kind) (good : kind_of line ≡ Some kind) where
  parts : ((eqb (length line) 36 && eqb (get_or line 35 0) line_feed) ≡ true) × (of_kind (kind_named (field_of (take 2 line))) line ≡ Some kind)
  unfolding kind_of
  parts = good_is (eqb (length line) 36 && eqb (get_or line 35 0) line_feed) (of_kind (kind_named (field_of (take 2 line))) line) kind good

  -- its last byte is a line feed
  fed : get_or line 35 0 ≡ line_feed
  fed = eqb-true _ _ (both (eqb (length line) 36) _ parts.0).1

  -- no byte of its numbers is one
  number_unbroken : (k : ℕ) → k < 3 → Unbroken (take 11 (drop (2 + 11 * k) line))
  unfolding number_at numbers_fit
  number_unbroken k h = pick k h
    where
      fit : (is_of kind (number_at 0 line) ≡ true) × (is_of kind (number_at 1 line) ≡ true) × (is_of kind (number_at 2 line) ≡ true)
      fit = three (is_of kind) line (good_line line kind good).1

      pick : (k : ℕ) → k < 3 → Unbroken (take 11 (drop (2 + 11 * k) line))
      pick zero h = unbroken_number kind (take 11 (drop 2 line)) _ refl fit.0
      pick (suc zero) h = unbroken_number kind (take 11 (drop 13 line)) _ refl fit.1
      pick (suc (suc zero)) h = unbroken_number kind (take 11 (drop 24 line)) _ refl fit.2
      pick (suc (suc (suc k))) h = absurd (omega (arith, h))

  -- and none before the last
  unfed : (r : ℕ) → r < 35 → get_or line r 0 ≡ line_feed → ⊥
  unfed r h e = elim (cases_lt r 2) [
    | inl front ↦ unbroken_kind (take 2 line) line _ kind refl parts.1 r (get_or-take 2 line r 0 front ∙ e)
    | inr behind ↦
        let k = (r - 2) / 11 in
        let j = (r - 2) % 11 in
        let place : 2 + 11 * k + j ≡ r = omega arith in
        number_unbroken k (omega arith) j (get_or-take 11 (drop (2 + 11 * k) line) j 0 (omega arith) ∙ get_or-drop (2 + 11 * k) line j 0 ∙ rw place e)
  ]

-- ---- a good text

-- each line has a kind
line_good : (text : List ℕ) (c : Counts) → GoodText text c → (q : ℕ) → q < lines_in c → (kind : Kind) × (kind_of (line_at text q) ≡ Some kind)
unfolding lines_in
line_good text c a q h = elim (cases_lt q c.vertices) [
  | inl vertex ↦ (Kinds.Vertex, a.each_vertex q vertex)
  | inr past ↦ elim (cases_lt q (c.vertices + c.triangles)) [
    | inl triangle ↦
        let place : c.vertices + (q - c.vertices) ≡ q = omega arith in
        (Kinds.Triangle, rw place at (a.each_triangle (q - c.vertices) (omega arith)))
    | inr behind ↦
        let place : c.vertices + c.triangles + (q - (c.vertices + c.triangles)) ≡ q = omega arith in
        (Kinds.Point, rw place at (a.each_point (q - (c.vertices + c.triangles)) (omega arith)))
  ]
]

-- a byte of a text is one of its line
byte_at : (text : List ℕ) (i : ℕ) → get_or (line_at text (i / 36)) (i % 36) 0 ≡ get_or text i 0
unfolding line_at
byte_at text i =
    let place : 36 * (i / 36) + i % 36 ≡ i = omega arith in
    get_or-take 36 (drop (36 * (i / 36)) text) (i % 36) 0 (omega arith) ∙ get_or-drop (36 * (i / 36)) text (i % 36) 0 ∙ rw place

-- The line feeds of a text that is judged good stand exactly at every 36th byte.
pub line_feeds : (first : ℕ) (c : Counts) (text : List ℕ) → judge first none (lines text) ≡ Ok c
    → (i : ℕ) → i < length text → (i % 36 ≡ 35 → get_or text i 0 ≡ line_feed) × (get_or text i 0 ≡ line_feed → i % 36 ≡ 35)
line_feeds first c text e i h =
    let a = good_text first c text e in
    let good = line_good text c a (i / 36) (omega (arith, a.long)) in
    let line = line_at text (i / 36) in
    (λ last. sym (byte_at text i) ∙ rw last (fed line good.0 good.1), λ feed. last_place line (unfed line good.0 good.1) (byte_at text i ∙ feed))
  where
    last_place : (line : List ℕ) → ((r : ℕ) → r < 35 → get_or line r 0 ≡ line_feed → ⊥) → get_or line (i % 36) 0 ≡ line_feed → i % 36 ≡ 35
    last_place line none e = elim (cases_lt (i % 36) 35) [
      | inl before ↦ absurd (none (i % 36) before e)
      | inr last ↦ omega arith
    ]
