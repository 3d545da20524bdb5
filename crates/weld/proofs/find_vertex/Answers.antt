-- `find_vertex` meets its contract: three numbers after another are the points of the list (`finds_at`), so the first that passes has the
-- number that is found.
use Rattle.std.proofs.Common.{◌≡◌, ℕ, suc, ◌+◌, ◌/◌, Bool, true, false, not, cond, ltb, Option, Some, None, List, [], ◌∷◌, length, refl, sym, ◌∙◌, arith, rules, tests, ltb-true}
use Rattle.std.proofs.lemmas.Bool.{ltb-false}
use Rattle.std.proofs.lemmas.Iterator.{YieldsList-from_slice}
use Rattle.std.proofs.lemmas.Iterator.Search.{position_from_yields_List}
use Rattle.std.specs.List.{position_or_len}
use Rattle.std.specs.Simd.{first_chunks}
use Rattle.std.specs.Prelude.{Float}
use Rattle.math.specs.declared.Vec3.{Vec3}
use Rattle.math.specs.Vectors.{vec, at, points}
use Rattle.math.specs.laws.VectorLaws.{length_points}
use Rattle.weld.specs.Welding.{same, find}
use Rattle.weld.specs.steps.WeldSteps.{Finds}
use Rattle.weld.specs.laws.Finding.{find_le}
use Rattle.weld.proofs.find_vertex.Goals as goal

turn : (b : Bool) (m n : ℕ) → m ≡ n → cond (not b) (1 + m) 0 ≡ cond b 0 (n + 1)
turn true m n e = refl
turn false m n e = omega (arith, e)

finds_at : (p : Vec3) (l : List Float) → position_or_len (λ c. same (at c 0) p) (first_chunks 3 (length l / 3) l) ≡ find (points l) p
unfolding points find at
finds_at p [] = refl
finds_at p (x ∷ []) = refl
finds_at p (x ∷ y ∷ []) = refl
finds_at p (x ∷ y ∷ z ∷ rest) =
    let more : length (x ∷ y ∷ z ∷ rest) / 3 ≡ suc (length rest / 3) = omega arith in
    rw more (turn (same (vec x y z) p) _ _ (finds_at p rest))

finds_from : (b : Bool) (vs : List Vec3) (p : Vec3) (r : Option ℕ) (m n : ℕ) → ltb m n ≡ b → r ≡ cond b (Some m) None → m ≡ find vs p → n ≡ length vs → Finds vs p r
finds_from true vs p r m n t e f g = rw e (f, omega (arith, ltb-true m n t))
finds_from false vs p r m n t e f g = rw e (omega (arith, find_le vs p, ltb-false m n t))

pub returns : goal.returns
unfolding same at
returns c =
    let l = c.args.vertices.now in
    let p = c.args.p in
    let found =
    position_from_yields_List (λ v. same (at v 0) p) _ _ c.position.result c.position.ensures.ran
    (YieldsList-from_slice (first_chunks 3 (length l / 3) l) (c.iter.ensures.rest ∙ c.as_chunks.ensures.front))
    (λ x b q k. search (rules, tests)) in
    let long = rw c.as_chunks.ensures.front at c.as_chunks.ensures.front_len in
    finds_from _ (points l) p _ _ _ refl found (finds_at p l) (long ∙ sym (length_points l))
