-- `ends_fit` meets its contract: ends that never fall fit if the last is the corner count (`rising`), and others do not (`falling`).
use Rattle.std.proofs.Common.{◌≡◌, ℕ, zero, suc, ◌-◌, ◌≤◌, ◌<◌, false, leb, eqb, List, [], ◌∷◌, length, get_or, refl, sym, ◌∙◌, arith, add-one, le-leb}
use Rattle.std.proofs.Math.Bool.{and-false}
use Rattle.std.proofs.lemmas.Bool.{lt-leb}
use Rattle.std.proofs.lemmas.List.{get_or_past}
use Rattle.std.specs.List.Sorted.{IsNonDecreasing}
use Rattle.std.proofs.lemmas.List.Sorted.{non_decreasing_from_is_sorted}
use Rattle.mesh_questions.specs.MeshQuestions.{ends_fit}
use Rattle.mesh_questions.proofs.ends_fit.Goals as goal

-- the last end, or what stood before them
last : ℕ → List ℕ → ℕ
last before [] = before
last before (end ∷ rest) = last end rest

last_in : (before end : ℕ) (rest : List ℕ) → get_or (end ∷ rest) (length rest) before ≡ last end rest
unfolding last
last_in before end [] = refl
last_in before end (next ∷ rest) = last_in before next rest

last_at : (before : ℕ) (ends : List ℕ) → get_or ends (length ends - 1) before ≡ last before ends
unfolding last
last_at before [] = get_or_past [] (length {A = ℕ} [] - 1) before (omega arith)
last_at before (end ∷ rest) =
    let back : length (end ∷ rest) - 1 ≡ length rest = omega arith in
    rw back (last_in before end rest)

rising : (before corners : ℕ) (ends : List ℕ) → IsNonDecreasing (before ∷ ends) → ends_fit before corners ends ≡ eqb (last before ends) corners
unfolding ends_fit last
rising before corners [] h = refl
rising before corners (end ∷ rest) h =
    let up : before ≤ end = h 0 1 0 (omega arith) (omega arith) in
    rw (le-leb before end up) (rising end corners rest (λ i j d le lt. h (suc i) (suc j) d (omega arith) (omega arith)))

rising_all : (corners : ℕ) (ends : List ℕ) → IsNonDecreasing ends → ends_fit 0 corners ends ≡ eqb (last 0 ends) corners
unfolding ends_fit last
rising_all corners [] h = refl
rising_all corners (end ∷ rest) h = rw (le-leb 0 end (omega arith)) (rising end corners rest h)

falling : (before corners : ℕ) (ends : List ℕ) (k : ℕ) → suc k < length ends → get_or ends (suc k) 0 < get_or ends k 0 → ends_fit before corners ends ≡ false
unfolding ends_fit
falling before corners [] k h f = absurd (omega arith)
falling before corners (end ∷ []) k h f = absurd (omega arith)
falling before corners (end ∷ next ∷ rest) zero h f = rw (lt-leb end next f) (and-false (leb before end))
falling before corners (end ∷ next ∷ rest) (suc k) h f =
    rw (falling end corners (next ∷ rest) k (omega arith) f) (and-false (leb before end))

pub returns-then-is_sorted : goal.returns-then-is_sorted
returns-then-is_sorted c =
    let ends = c.args.ends.now in
    let value : c.unwrap_or.result ≡ last 0 ends = c.unwrap_or.ensures ∙ rw c.copied.ensures (c.last.ensures.item.4 (omega arith) 0) ∙ last_at 0 ends in
    let up = rw c.if-is_sorted.true at (non_decreasing_from_is_sorted ends c.is_sorted.result c.is_sorted.ensures.cases) in
    rw value (sym (rising_all c.args.corners ends up))

pub returns-else-is_sorted : goal.returns-else-is_sorted
returns-else-is_sorted c =
    let ends = c.args.ends.now in
    let down = rw c.if-is_sorted.false at (non_decreasing_from_is_sorted ends c.is_sorted.result c.is_sorted.ensures.cases) in
    c.if-is_sorted.false ∙ sym (falling 0 c.args.corners ends down.0 (omega (arith, down.1)) (rw (add-one down.0) at (down.2 0)))
