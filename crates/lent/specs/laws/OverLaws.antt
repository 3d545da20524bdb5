-- The laws of a buffer that was written over, for loops that write place after place.
use Prim.Native.Nat.{ℕ, suc, ◌+◌, ◌-◌, ◌≤◌, ◌<◌}
use Rattle.std.proofs.Math.Numerals.{add-one}
use native.Mathlib.Omega.{arith}
use Rattle.std.specs.Prelude.{◌≡◌, List, [], ◌∷◌, ◌++◌, get_or, take, drop, set}
use Rattle.std.proofs.Math.Path.{refl}
use Rattle.std.proofs.Common.{sym, ◌∙◌, append-nil, append_assoc, length-take, length-drop, drop_of_length-le, take-append-drop, take-suc, length-take-le}
use Rattle.std.proofs.Math.ListN.{length, length-append}
use Rattle.std.proofs.Math.Seq.{drop-cons, drop-drop, drop-append-add, set-append_seam, append_snoc, take_at, drop_at}
use Rattle.std.proofs.lemmas.List.Edits.{sets, sets-eq}
use Rattle.lent.specs.Over.{over}

module _ {A : Type 0} where
  -- nothing written leaves the buffer as it was
  pub over_nothing : (old : List A) → over [] old ≡ old
  unfolding over
  over_nothing old = refl

  -- the buffer's length stays
  pub length_over : (new old : List A) → length new ≤ length old → length (over new old) ≡ length old
  unfolding over
  length_over new old h = simp (length-append, length-drop) (omega arith)

  -- one more element is a store behind those that were written
  pub over_next : (new old : List A) (x : A) → length new < length old → over (new ++ (x ∷ [])) old ≡ set (over new old) (length new) x
  unfolding over
  over_next new old x h =
      let longer : length (new ++ (x ∷ [])) ≡ suc (length new) = length-append new (x ∷ []) ∙ add-one (length new) in
      rw (longer, append_snoc, drop-cons old (length new) x, set-append_seam)

  -- the next element of a list of which the first i were written is a store at place i
  pub over_take : (new old : List A) (i : ℕ) (d : A) → i < length new → i < length old → over (take (i + 1) new) old ≡ set (over (take i new) old) i (get_or new i d)
  over_take new old i d h k =
      let long : length (take i new) ≡ i = length-take-le i new (omega arith) in
      let next = over_next (take i new) old (get_or new i d) (rw long k) in
      rw (add-one i, take-suc new i d h) (rw long at next)

  -- what was written stands in front
  pub take_over : (new old : List A) (n : ℕ) → length new ≡ n → take n (over new old) ≡ new
  unfolding over
  take_over new old n e = take_at new _ n e

  -- the rest is as it was
  pub drop_over : (new old : List A) (n : ℕ) → length new ≡ n → drop n (over new old) ≡ drop n old
  unfolding over
  drop_over new old n e = drop_at new _ n e ∙ rw e

  -- a buffer that is no longer than what was written is just that
  pub over_whole : (new old : List A) → length old ≤ length new → over new old ≡ new
  unfolding over
  over_whole new old h = rw (drop_of_length-le old h, append-nil)

  -- a call that fills the next n places, which it is lent alone, writes on behind what was written
  pub over_on : (done more old : List A) (m n : ℕ) → length done ≡ m → length more ≡ n
      → take m (over done old) ++ (over more (take n (drop m (over done old))) ++ drop n (drop m (over done old))) ≡ over (done ++ more) old
  over_on done more old m n d e =
      let full = over_whole more (take n (drop m old)) (simp length-take (omega arith)) in
      rw (take_over done old m d, drop_over done old m d, full, drop-drop) (unfold over in rw (length-append, d, e, append_assoc))

  -- a buffer's own front leaves it as it was
  pub over_own : (n : ℕ) (old : List A) → n ≤ length old → over (take n old) old ≡ old
  unfolding over
  over_own n old h = rw (length-take-le n old h) (take-append-drop n old)

  -- of two lists written over the front the second counts alone if it is at least as long
  pub over_over : (newer new old : List A) → length new ≤ length newer → over newer (over new old) ≡ over newer old
  unfolding over
  over_over newer new old h =
      let more : length newer ≡ length new + (length newer - length new) = omega arith in
      rw (more, drop-append-add, drop-drop, ← more)

  -- elements behind the n that were written
  pub over_behind : (n : ℕ) (new more old : List A) → n ≡ length new → over (take n (over new old) ++ more) (over new old) ≡ over (new ++ more) old
  over_behind n new more old e =
      rw (take_over new old n (sym e)) (over_over (new ++ more) new old (simp length-append (omega arith)))

  -- elements behind the front of a buffer are stores one after another
  pub over_stores : (n : ℕ) (old more : List A) → n + length more ≤ length old → over (take n old ++ more) old ≡ sets old n more
  unfolding over
  over_stores n old more h =
      let long : length (take n old ++ more) ≡ n + length more = simp length-append (rw (length-take-le n old (omega arith))) in
      rw long (sym (sets-eq more old n h))

  -- and so is a part of the buffer that is written behind the front
  pub over_part : (n width : ℕ) (old part more : List A) → n + length more ≤ length old → width ≡ length more → part ≡ more → take n old ++ (part ++ drop width (drop n old)) ≡ over (take n old ++ more) old
  unfolding over
  over_part n width old part more h wide same =
      let long : length (take n old ++ more) ≡ n + length more = simp length-append (rw (length-take-le n old (omega arith))) in
      rw (same, wide, drop-drop, long) (sym (append_assoc (take n old) more (drop (n + length more) old)))

  -- three of them
  pub over_three : (n : ℕ) (old : List A) (x y z : A) → n + 2 < length old → over (take n old ++ (x ∷ y ∷ z ∷ [])) old ≡ set (set (set old n x) (n + 1) y) (n + 2) z
  over_three n old x y z h =
      let one : n + 1 ≡ suc n = omega arith in
      let two : n + 2 ≡ suc (suc n) = omega arith in
      rw (one, two) (over_stores n old (x ∷ y ∷ z ∷ []) (omega arith))
