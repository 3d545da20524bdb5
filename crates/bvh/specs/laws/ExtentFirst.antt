-- The first zero of sorted items: what one item more changes, that of two lists together, and that it is one of the items.
use Rattle.std.specs.Prelude.{ℕ, ◌≤◌, ◌≡◌, ◌⊎◌, true, false, Float, Option, None, Some, IfSome}
use native.Mathlib.Omega.{arith}
use Rattle.std.proofs.Math.Path.{refl}
use Rattle.std.proofs.Common.{sym, ◌∙◌, inl, ⊎_elim, le-leb, leb-true, true≢false}
use Rattle.std.proofs.Math.Logic.{inr}
use mathlib.Core.List.{List, [], ◌∷◌, ◌++◌, append-nil}
use Rattle.std.specs.Float.Ieee.{eq}
use Rattle.std.proofs.lemmas.Bool.{lt-leb}
use Rattle.float.specs.Arithmetic.{zero}
use Rattle.keys.specs.Sorting.{insert_by, sorted_by, sorted, AscendingBy, Ascending}
use Rattle.lent.specs.Every.{Every}
use Rattle.keys.specs.laws.SortingTheorems.{by_test, le_or_lt, insert_here, insert_past, all_le, sorted_ascending}
use Rattle.bvh.specs.steps.Extent.{first_zero, in_time, earlier}

-- ---- one item more

-- a number that is at most all items does not come later than the first with a zero
first_after : (e : ℕ → Float) (t : ℕ) (l : List ℕ) → Every (λ s. t ≤ s) l → in_time (first_zero e l) t ≡ true
unfolding first_zero
first_after e t [] a = refl
first_after e t (s ∷ rest) a = by_test (eq (e s) zero) (λ z. rw z (le-leb t s a.0)) (λ z. rw z (first_after e t rest a.1))

-- an item put into an ascending list
first_insert : (e : ℕ → Float) (t : ℕ) (l : List ℕ) → Ascending l → first_zero e (insert_by (λ x. x) t l) ≡ earlier (first_zero e l) t (e t)
unfolding first_zero earlier AscendingBy insert_by
first_insert e t [] a = by_test (eq (e t) zero) (λ z. rw z) (λ z. rw z)
first_insert e t (s ∷ rest) a =
    let more = first_insert e t rest a.1 in
    ⊎_elim
    (λ k. rw (insert_here (λ x. x) t s rest k) (by_test (eq (e t) zero) (λ z. rw (z, late k)) (λ z. rw z)))
    (λ k. rw (insert_past (λ x. x) t s rest k) (by_test (eq (e s) zero) (λ y. rw y (by_test (eq (e t) zero) (λ z. rw (z, lt-leb t s k)) (λ z. rw z))) (λ y. rw y more)))
    (le_or_lt t s)
  where
    late : t ≤ s → in_time (first_zero e (s ∷ rest)) t ≡ true
    late k = first_after e t (s ∷ rest) (k, all_le (λ x. x) t s rest k a.0)

-- ---- two lists

-- x does not come later than y
abbrev NoLater : Option ℕ → Option ℕ → Type 0
NoLater x y = (s : ℕ) → in_time x s ≡ true → in_time y s ≡ true

-- z is the one of x and y that comes first
abbrev First : Option ℕ → Option ℕ → Option ℕ → Type 0
First x y z = ((z ≡ x) × NoLater x y) ⊎ ((z ≡ y) × NoLater y x)

-- an item that is in time, and one before it
in_time_before : (x : Option ℕ) (t : ℕ) → in_time x t ≡ true → NoLater (Some t) x
in_time_before None t h s k = refl
in_time_before (Some u) t h s k = le-leb s u (omega (arith, leb-true t u h, leb-true s t k))

-- an item that comes later, and one in time
late_after : (y : Option ℕ) (t : ℕ) → in_time y t ≡ false → NoLater y (Some t)
late_after None t h s k = absurd (true≢false h)
late_after (Some u) t h s k = ⊎_elim (λ less. absurd (true≢false (sym (le-leb t u less) ∙ h))) (λ less. le-leb s t (omega (arith, leb-true s u k))) (le_or_lt t u)

-- one item more, beside x
earlier_first : (x y z : Option ℕ) (t : ℕ) (v : Float) → First x y z → First (earlier x t v) y (earlier z t v)
unfolding earlier
earlier_first x y z t v h =
    by_test (eq v zero)
    (λ some. rw some
    (⊎_elim
    (λ w. inl (rw w.0, by_test (in_time x t) (λ k. rw k (λ s j. w.1 s (in_time_before x t k s j))) (λ k. rw k w.1)))
    (λ w. by_test (in_time y t)
    (λ k. inl (rw (w.0, k, w.1 t k), rw (w.1 t k) (in_time_before y t k)))
    (λ k. inr (rw (w.0, k), by_test (in_time x t) (λ j. rw j (late_after y t k)) (λ j. rw j w.1))))
    h))
    (λ none. rw none h)

module _ (e : ℕ → Float) where
  -- the first zero of items in any order
  abbrev pub found : List ℕ → Option ℕ
  found l = first_zero e (sorted l)

  pub found_more : (t : ℕ) (l : List ℕ) → found (t ∷ l) ≡ earlier (found l) t (e t)
  unfolding sorted_by
  found_more t l = first_insert e t (sorted l) (sorted_ascending l)

  -- none of the items has a zero
  abbrev pub NoZero : List ℕ → Type 0
  NoZero l = Every (λ t. eq (e t) zero ≡ false) l

  -- items without a zero add nothing
  pub found_right : (a b : List ℕ) → NoZero a → found (a ++ b) ≡ found b
  unfolding earlier
  found_right [] b n = refl
  found_right (t ∷ a) b n = found_more t (a ++ b) ∙ rw n.0 (found_right a b n.1)

  pub found_left : (a b : List ℕ) → NoZero b → found (a ++ b) ≡ found a
  found_left [] b n = rw (append-nil b) at (found_right b [] n)
  found_left (t ∷ a) b n = rw (found_more t (a ++ b), found_more t a, found_left a b n)

  -- the first zero of two lists is that of one of them
  found_first : (a b : List ℕ) → First (found a) (found b) (found (a ++ b))
  unfolding sorted_by first_zero
  found_first [] b = inr (refl, λ s h. refl)
  found_first (t ∷ a) b =
      rw (found_more t (a ++ b), found_more t a) (earlier_first (found a) (found b) (found (a ++ b)) t (e t) (found_first a b))

  pub found_either : (a b : List ℕ) → (found (a ++ b) ≡ found a) ⊎ (found (a ++ b) ≡ found b)
  found_either a b = ⊎_elim (λ w. inl w.0) (λ w. inr w.0) (found_first a b)

  -- it is one of the items
  pub first_is_item : (P : ℕ → Type 0) (l : List ℕ) → Every P l → IfSome (first_zero e l) P
  unfolding first_zero
  first_is_item P [] a = tt
  first_is_item P (t ∷ rest) a = by_test (eq (e t) zero) (λ z. rw z a.0) (λ z. rw z (first_is_item P rest a.1))
