-- The laws by which loops over the bytes of a field compute what it says.
use Rattle.std.specs.Prelude.{ℕ, zero, suc, ◌+◌, ◌-◌, ◌*◌, ◌/◌, ◌%◌, ◌≤◌, ◌<◌, ◌≡◌, refl, Bool, true, false, not, cond, ◌&&◌, List, [], ◌∷◌, ◌++◌, eqb, leb, ltb, unwrap_or, length, get_or, drop, set, replicate}
use Rattle.std.proofs.Common.{add-one, arith, ◌∙◌, length-set, get_or-set_same, drop-set-lt, leb-true}
use borrow.Author.Tests.{ltb-false}
use Rattle.std.proofs.lemmas.List.{replicate-append-replicate}
use Rattle.std.proofs.Math.Seq.{drop-cons, append_snoc}
use Rattle.std.specs.List.{list_all, position_or_len, position}
use Rattle.refusal.specs.laws.VerdictLaws.{both}
use Rattle.text.specs.Fields.{blank, minus, digit0, before, field_text, without_blanks, all_digits, value_from, is_whole, magnitude_of, number_of}

-- from byte i on
module _ (l : List ℕ) (i : ℕ) (h : i < length l) where
  pub all_digits_next : all_digits (drop i l) ≡ (leb digit0 (get_or l i 0) && leb (get_or l i 0) (digit0 + 9) && all_digits (drop (i + 1) l))
  unfolding all_digits
  all_digits_next = rw (add-one i, drop-cons l i 0 h)

  pub value_from_next : (read : ℕ) → value_from read (drop i l) ≡ value_from (read * 10 + (get_or l i 0 - digit0)) (drop (i + 1) l)
  unfolding value_from
  value_from_next read = rw (add-one i, drop-cons l i 0 h)

  -- if the bytes from i on are digits, byte i is one, and so are those behind it
  pub next_digit : all_digits (drop i l) ≡ true → (digit0 ≤ get_or l i 0) × (get_or l i 0 ≤ digit0 + 9) × (all_digits (drop (i + 1) l) ≡ true)
  next_digit e =
      let parts = both (leb digit0 (get_or l i 0) && leb (get_or l i 0) (digit0 + 9)) (all_digits (drop (i + 1) l)) (rw all_digits_next at e) in
      let digit = both (leb digit0 (get_or l i 0)) (leb (get_or l i 0) (digit0 + 9)) parts.0 in
      (leb-true _ _ digit.0, leb-true _ _ digit.1, parts.1)

  pub number_of_next : number_of (drop i l) ≡ cond (eqb (get_or l i 0) minus) (magnitude_of true (drop (i + 1) l)) (magnitude_of false (drop i l))
  unfolding number_of
  number_of_next = rw (add-one i, drop-cons l i 0 h)

-- the number begins at the first byte that is no blank
abbrev blanks_of : List ℕ → ℕ
blanks_of l = position_or_len (λ b. not (eqb b blank)) l

behind_blanks : (l : List ℕ) → (blanks_of l ≤ length l) × (drop (blanks_of l) l ≡ without_blanks l)
unfolding without_blanks
behind_blanks [] = (omega arith, refl)
behind_blanks (b ∷ l) = pick (eqb b blank) refl (behind_blanks l)
  where
    pick : (t : Bool) → eqb b blank ≡ t → (blanks_of l ≤ length l) × (drop (blanks_of l) l ≡ without_blanks l) → (blanks_of (b ∷ l) ≤ length (b ∷ l)) × (drop (blanks_of (b ∷ l)) (b ∷ l) ≡ without_blanks (b ∷ l))
    pick true e rest =
        let more : 1 + blanks_of l ≡ suc (blanks_of l) = omega arith in
        rw (e, more) (omega (arith, rest.0), rest.1)
    pick false e rest = rw e (omega arith, refl)

pub blanks_skipped : (l : List ℕ) → (unwrap_or (position (λ b. not (eqb b blank)) l) (length l) ≤ length l) × (drop (unwrap_or (position (λ b. not (eqb b blank)) l) (length l)) l ≡ without_blanks l)
blanks_skipped l = pick (ltb (blanks_of l) (length l)) refl
  where
    pick : (t : Bool) → ltb (blanks_of l) (length l) ≡ t → (unwrap_or (position (λ b. not (eqb b blank)) l) (length l) ≤ length l) × (drop (unwrap_or (position (λ b. not (eqb b blank)) l) (length l)) l ≡ without_blanks l)
    pick true e = rw e (behind_blanks l)
    pick false e =
        let all : length l ≡ blanks_of l = omega (arith, (behind_blanks l).0, ltb-false (blanks_of l) (length l) e) in
        rw e (omega arith, rw all (behind_blanks l).1)

-- the bytes are digits if each passes the test
pub digits_all : (l : List ℕ) → list_all (λ b. leb digit0 b && leb b (digit0 + 9)) l ≡ all_digits l
unfolding all_digits
digits_all [] = refl
digits_all (b ∷ l) = rw (digits_all l)

-- a whole number is of digits
pub whole_digits : (l : List ℕ) → is_whole l ≡ true → all_digits l ≡ true
unfolding is_whole
whole_digits l e = (both (all_digits l) _ (both (leb 1 (length l)) _ e).1).0

-- before a number that is not negative stand blanks alone
pub before_blanks : (width : ℕ) → before false width ≡ replicate width blank
unfolding before
before_blanks zero = refl
before_blanks (suc width) = replicate-append-replicate width 1 blank ∙ rw (add-one width)

-- a number whose last digit is stored at byte i of a field, in front of what stands behind it
pub field_text_next : (negative : Bool) (i n : ℕ) (field : List ℕ) → i < length field
    → field_text negative (i + 1) n ++ drop (i + 1) field ≡ cond (eqb (n / 10) 0) (before negative i) (field_text negative i (n / 10)) ++ drop i (set field i (digit0 + n % 10))
unfolding field_text
field_text_next negative i n field h =
    let stored : drop i (set field i (digit0 + n % 10)) ≡ (digit0 + n % 10) ∷ drop (suc i) field =
    drop-cons (set field i (digit0 + n % 10)) i 0 (simp length-set h) ∙ rw (get_or-set_same, drop-set-lt (suc i) field i (digit0 + n % 10) (omega arith)) in
    rw (add-one i, stored, append_snoc)
