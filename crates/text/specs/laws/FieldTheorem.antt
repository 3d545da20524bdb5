-- A field says a number exactly if it is that number written in its width: what is read is what is written.
use Prim.Native.Nat.{ℕ, zero, suc, ◌+◌, ◌-◌, ◌*◌, ◌/◌, ◌%◌, ◌^◌, ◌≤◌, ◌<◌}
use Rattle.std.proofs.Math.Nat.{add-zero, add-suc}
use Rattle.std.proofs.Common.{pow-suc, add-one, arith, sym, ap, ◌∙◌, true≢false, append_assoc, length-append, take-suc, take_all}
use Rattle.std.specs.Prelude.{◌≡◌, refl, Bool, true, false, not, cond, ◌&&◌, ◌||◌, Some, None, List, [], ◌∷◌, ◌++◌, eqb, leb, length, take, drop, replicate}
use Rattle.std.proofs.Math.ListN.{get_or}
use Rattle.std.proofs.lemmas.List.{length-replicate}
use borrow.Author.Tests.{eqb-true, eqb-false, leb-true, leb-false, le-leb, ne_eqb, not-true}
use Rattle.refusal.specs.laws.VerdictLaws.{both}
use Rattle.text.specs.declared.fields.Number.{Number}
use Rattle.text.specs.Fields.{number, blank, minus, digit0, before, field_text, without_blanks, all_digits, value_from, is_whole, magnitude_of, number_of, field_of}
use Rattle.text.specs.laws.FieldLaws.{next_digit, before_blanks}

-- one more digit
value_snoc : (read : ℕ) (l : List ℕ) (d : ℕ) → value_from read (l ++ (d ∷ [])) ≡ value_from read l * 10 + (d - digit0)
unfolding value_from
value_snoc read [] d = refl
value_snoc read (b ∷ l) d = value_snoc (read * 10 + (b - digit0)) l d

above : (d : ℕ) → digit0 ≤ d → (d ≡ digit0 → ⊥) → digit0 < d
above d h differs = go (leb (digit0 + 1) d) refl
  where
    go : (t : Bool) → leb (digit0 + 1) d ≡ t → digit0 < d
    go true e = omega (arith, leb-true (digit0 + 1) d e)
    go false e = absurd (differs (omega (arith, h, leb-false (digit0 + 1) d e)))

-- the last digit of a number, and the rest of it
last_digit : (v d : ℕ) → digit0 ≤ d → d ≤ digit0 + 9 → ((v * 10 + (d - digit0)) / 10 ≡ v) × (digit0 + (v * 10 + (d - digit0)) % 10 ≡ d)
last_digit v d h k = (omega arith, omega arith)

-- the digits of a whole number
module _ (ds : List ℕ) (whole : is_whole ds ≡ true) where
  parts : (1 ≤ length ds) × (all_digits ds ≡ true) × ((eqb (length ds) 1 || not (eqb (get_or ds 0 0) digit0)) ≡ true)
  unfolding is_whole
  parts =
      let some = both (leb 1 (length ds)) _ whole in
      let rest = both (all_digits ds) _ some.1 in
      (leb-true 1 (length ds) some.0, rest.0, rest.1)

  -- from each place on they are digits
  digits_at : (i : ℕ) → i ≤ length ds → all_digits (drop i ds) ≡ true
  digits_at zero h = parts.1
  digits_at (suc i) h = rw (add-one i) at (next_digit ds i (omega arith) (digits_at i (omega arith))).2

  -- the first of several is not 0
  not_zero : 2 ≤ length ds → digit0 < get_or ds 0 0
  not_zero h =
      let several = ne_eqb (length ds) 1 (λ e. omega (arith, e)) in
      let first = eqb-false (get_or ds 0 0) digit0 (not-true (eqb (get_or ds 0 0) digit0) (rw several at parts.2)) in
      above (get_or ds 0 0) (next_digit ds 0 (omega arith) parts.1).0 first

  -- the number that the first i digits say is not 0 if there are several
  value_some : (i : ℕ) → 2 ≤ length ds → suc i ≤ length ds → 1 ≤ value_from 0 (take (suc i) ds)
  value_some zero several h =
      let first = not_zero several in
      rw (take-suc ds 0 0 (omega arith), value_snoc 0 [] (get_or ds 0 0)) (unfold value_from in omega (arith, first))
  value_some (suc i) several h =
      rw (take-suc ds (suc i) 0 (omega arith), value_snoc 0 (take (suc i) ds) (get_or ds (suc i) 0)) (omega (arith, value_some i several (omega arith)))

  -- the first i digits, written at the end of a field with w places before them
  written : (negative : Bool) (w i : ℕ) → suc i ≤ length ds → field_text negative (suc (w + i)) (value_from 0 (take (suc i) ds)) ≡ before negative w ++ take (suc i) ds
  unfolding field_text value_from
  written negative w zero h =
      let d = get_or ds 0 0 in
      let digit = next_digit ds 0 (omega arith) (digits_at 0 (omega arith)) in
      let last = last_digit 0 d digit.0 digit.1 in
      rw (take-suc ds 0 0 (omega arith), last.0, last.1, add-zero w)
  written negative w (suc i) h =
      let d = get_or ds (suc i) 0 in
      let v = value_from 0 (take (suc i) ds) in
      let digit = next_digit ds (suc i) (omega arith) (digits_at (suc i) (omega arith)) in
      let last = last_digit v d digit.0 digit.1 in
      let some = value_some i (omega arith) (omega arith) in
      let more = ne_eqb v 0 (λ e. omega (arith, e, some)) in
      rw (take-suc ds (suc i) 0 (omega arith), value_snoc 0 (take (suc i) ds) d, last.0, last.1, more, add-suc w i, written negative w i (omega arith)) (append_assoc (before negative w) (take (suc i) ds) (d ∷ []))

  -- all of them
  pub whole_written : (negative : Bool) (w : ℕ) → field_text negative (w + length ds) (value_from 0 ds) ≡ before negative w ++ ds
  whole_written negative w =
      let i = length ds - 1 in
      let again : suc i ≡ length ds = omega (arith, parts.0) in
      let width : suc (w + i) ≡ w + length ds = omega (arith, parts.0) in
      rw (again, take_all (length ds) ds (omega arith), width) at (written negative w i (omega (arith, parts.0)))

-- ---- blanks

-- the blanks before what a field has behind them
record Blanks (f : List ℕ) : Type 0 where
  count : ℕ
  same : f ≡ replicate count blank ++ without_blanks f

blanks : (f : List ℕ) → Blanks f
unfolding without_blanks
blanks [] = record { count = 0; same = refl }
blanks (b ∷ f) = pick (eqb b blank) refl (blanks f)
  where
    pick : (t : Bool) → eqb b blank ≡ t → Blanks f → Blanks (b ∷ f)
    pick true e rest = record { count = suc rest.count; same = rw e (rw (eqb-true b blank e) (ap (λ l. blank ∷ l) rest.same)) }
    pick false e rest = record { count = 0; same = rw e }

-- ---- what is read is what is written

-- digits behind w places
magnitude_written : (said negative : Bool) (ds : List ℕ) (n w : ℕ) → magnitude_of negative ds ≡ Some (number said n) → (said ≡ negative) × (before negative w ++ ds ≡ field_text said (w + length ds) n)
unfolding magnitude_of
magnitude_written said negative ds n w e = pick (is_whole ds && not (negative && eqb (value_from 0 ds) 0)) refl e
  where
    pick : (t : Bool) → (is_whole ds && not (negative && eqb (value_from 0 ds) 0)) ≡ t
        → cond t (Some (number negative (value_from 0 ds))) None ≡ Some (number said n)
        → (said ≡ negative) × (before negative w ++ ds ≡ field_text said (w + length ds) n)
    pick true t p =
        let whole = (both (is_whole ds) _ t).0 in
        let same : number said n ≡ number negative (value_from 0 ds) = cc in
        let sign = ap (λ (x : Number). x.negative) same in
        let value = ap (λ (x : Number). x.magnitude) same in
        rw (sign, value) (refl, sym (whole_written ds whole negative w))
    pick false t p =
        let wrong : ◌≡◌ {A = ℕ} 0 1 = cc in
        absurd (omega (arith, wrong))

-- a number behind k blanks
number_written : (g : List ℕ) (k : ℕ) (negative : Bool) (n : ℕ) → number_of g ≡ Some (number negative n) → replicate k blank ++ g ≡ field_text negative (k + length g) n
unfolding number_of before
number_written [] k negative n e =
    let wrong : ◌≡◌ {A = ℕ} 0 1 = cc in
    absurd (omega (arith, wrong))
number_written (b ∷ g) k negative n e = pick (eqb b minus) refl e
  where
    pick : (t : Bool) → eqb b minus ≡ t → cond t (magnitude_of true g) (magnitude_of false (b ∷ g)) ≡ Some (number negative n) → replicate k blank ++ (b ∷ g) ≡ field_text negative (k + length (b ∷ g)) n
    pick true t p =
        let found = (magnitude_written negative true g n (suc k) p).1 in
        let width : suc k + length g ≡ k + suc (length g) = omega arith in
        rw (eqb-true b minus t) (sym (append_assoc (replicate k blank) (minus ∷ []) g) ∙ rw width at found)
    pick false t p =
        let found = (magnitude_written negative false (b ∷ g) n k p).1 in
        rw (before_blanks k) at found

-- what a field says is what is written there
pub read_is_written : (f : List ℕ) (negative : Bool) (n : ℕ) → field_of f ≡ Some (number negative n) → f ≡ field_text negative (length f) n
unfolding field_of
read_is_written f negative n e =
    let k = (blanks f).count in
    let g = without_blanks f in
    let long : length f ≡ k + length g = ap length (blanks f).same ∙ length-append (replicate k blank) g ∙ rw (length-replicate k blank) in
    (blanks f).same ∙ rw long (number_written g k negative n e)

-- ---- what is written is read

-- the digits of a number below 10^m
record Digits (n m : ℕ) : Type 0 where
  ds : List ℕ
  whole : is_whole ds ≡ true
  value : value_from 0 ds ≡ n
  short : length ds ≤ m

or_true : (t : Bool) → (t || true) ≡ true
or_true true = refl
or_true false = refl

-- a number below 10
one_digit : (m n : ℕ) → 1 ≤ m → n ≤ 9 → Digits n m
unfolding is_whole all_digits value_from
one_digit m n h k =
    let low = le-leb digit0 (digit0 + n) (omega arith) in
    let high = le-leb (digit0 + n) (digit0 + 9) (omega arith) in
    record { ds = (digit0 + n) ∷ []; whole = rw (low, high); value = omega arith; short = h }

-- the first digit of a number that is not 0
first_above : (ds : List ℕ) → is_whole ds ≡ true → 1 ≤ value_from 0 ds → digit0 < get_or ds 0 0
unfolding is_whole value_from
first_above [] whole some = absurd (true≢false (sym whole))
first_above (d ∷ []) whole some = omega (arith, some)
first_above (d ∷ e ∷ ds) whole some = not_zero (d ∷ e ∷ ds) whole (omega arith)

all_snoc : (ds : List ℕ) (x : ℕ) → all_digits ds ≡ true → digit0 ≤ x → x ≤ digit0 + 9 → all_digits (ds ++ (x ∷ [])) ≡ true
unfolding all_digits
all_snoc [] x e h k = rw (le-leb digit0 x h, le-leb x (digit0 + 9) k)
all_snoc (d ∷ ds) x e h k =
    let these = both (leb digit0 d && leb d (digit0 + 9)) (all_digits ds) e in
    rw these.0 (all_snoc ds x these.1 h k)

first_snoc : (ds : List ℕ) (x : ℕ) → 1 ≤ length ds → get_or (ds ++ (x ∷ [])) 0 0 ≡ get_or ds 0 0
first_snoc [] x h = absurd (omega arith)
first_snoc (d ∷ ds) x h = refl

-- one more digit behind a number that is not 0
whole_snoc : (ds : List ℕ) (x : ℕ) → is_whole ds ≡ true → 1 ≤ value_from 0 ds → digit0 ≤ x → x ≤ digit0 + 9 → is_whole (ds ++ (x ∷ [])) ≡ true
unfolding is_whole
whole_snoc ds x whole some h k =
    let first = first_above ds whole some in
    let long : 1 ≤ length (ds ++ (x ∷ [])) = simp length-append (omega arith) in
    let several = ne_eqb (get_or ds 0 0) digit0 (λ e. omega (arith, e, first)) in
    rw (le-leb 1 (length (ds ++ (x ∷ []))) long, all_snoc ds x (parts ds whole).1 h k, first_snoc ds x (parts ds whole).0, several) (or_true (eqb (length (ds ++ (x ∷ []))) 1))

more_digits : (m n : ℕ) → n < 10 ^ suc (suc m) → (t : Bool) → leb n 9 ≡ t → (n / 10 < 10 ^ suc m → Digits (n / 10) (suc m)) → Digits n (suc (suc m))
more_digits m n h true e rest = one_digit (suc (suc m)) n (omega arith) (leb-true n 9 e)
more_digits m n h false e rest =
    let large = leb-false n 9 e in
    let power = pow-suc 10 (suc m) in
    let front = rest (omega (arith, power)) in
    let x = digit0 + n % 10 in
    record {
      ds = front.ds ++ (x ∷ []);
      whole = whole_snoc front.ds x front.whole (omega (arith, front.value, large)) (omega arith) (omega arith);
      value = value_snoc 0 front.ds x ∙ omega (arith, front.value);
      short = simp length-append (omega (arith, front.short));
    }

digits_of : (m n : ℕ) → n < 10 ^ suc m → Digits n (suc m)
digits_of zero n h = one_digit 1 n (omega arith) (omega arith)
digits_of (suc m) n h = more_digits m n h (leb n 9) refl (digits_of m (n / 10))

-- blanks before another byte
strip : (k b : ℕ) (l : List ℕ) → (b ≡ blank → ⊥) → without_blanks (replicate k blank ++ (b ∷ l)) ≡ b ∷ l
unfolding without_blanks
strip zero b l differs = rw (ne_eqb b blank differs)
strip (suc k) b l differs = strip k b l differs

-- digits are a number
read_digits : (negative : Bool) (ds : List ℕ) (n : ℕ) → is_whole ds ≡ true → value_from 0 ds ≡ n → (negative && eqb n 0) ≡ false → magnitude_of negative ds ≡ Some (number negative n)
unfolding magnitude_of
read_digits negative ds n whole value some = rw (whole, value, some)

read_behind : (k : ℕ) (ds : List ℕ) (n : ℕ) → is_whole ds ≡ true → value_from 0 ds ≡ n → field_of (replicate k blank ++ ds) ≡ Some (number false n)
unfolding field_of number_of is_whole
read_behind k [] n whole value = absurd (true≢false (sym whole))
read_behind k (d ∷ ds) n whole value =
    let digit = (next_digit (d ∷ ds) 0 (omega arith) (parts (d ∷ ds) whole).1).0 in
    rw (strip k d ds (λ e. omega (arith, e, digit)), ne_eqb d minus (λ e. omega (arith, e, digit))) (read_digits false (d ∷ ds) n whole value refl)

read_behind_minus : (k : ℕ) (ds : List ℕ) (n : ℕ) → is_whole ds ≡ true → value_from 0 ds ≡ n → 1 ≤ n → field_of (replicate k blank ++ (minus ∷ ds)) ≡ Some (number true n)
unfolding field_of number_of
read_behind_minus k ds n whole value some =
    rw (strip k minus ds (λ e. omega (arith, e))) (read_digits true ds n whole value (ne_eqb n 0 (λ e. omega (arith, e, some))))

-- a number that is not negative and fits its field is read
pub written_is_read : (width n : ℕ) → n < 10 ^ suc width → field_of (field_text false (suc width) n) ≡ Some (number false n)
written_is_read width n fits =
    let digits = digits_of width n fits in
    let ds = digits.ds in
    let k = suc width - length ds in
    let again : k + length ds ≡ suc width = omega (arith, digits.short) in
    let text = rw (again, digits.value, before_blanks k) at (whole_written ds digits.whole false k) in
    rw text (read_behind k ds n digits.whole digits.value)

-- and so is a negative one, with a place for its minus
pub negative_is_read : (width n : ℕ) → 1 ≤ n → n < 10 ^ suc width → field_of (field_text true (suc (suc width)) n) ≡ Some (number true n)
unfolding before
negative_is_read width n some fits =
    let digits = digits_of width n fits in
    let ds = digits.ds in
    let k = suc width - length ds in
    let again : suc k + length ds ≡ suc (suc width) = omega (arith, digits.short) in
    let text = rw (again, digits.value, append_assoc) at (whole_written ds digits.whole true (suc k)) in
    rw text (read_behind_minus k ds n digits.whole digits.value some)
