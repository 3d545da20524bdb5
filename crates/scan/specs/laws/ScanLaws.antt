-- Laws of the scan's lists: what a test and a vote say of a list does not depend on its order, and can be found part by part.
use Rattle.std.specs.Prelude.{Some, None, ℕ, suc, ◌+◌, ◌%◌, ◌≡◌, Bool, ◌||◌, eqb}
use native.Mathlib.Omega.{arith}
use Rattle.std.proofs.Math.Path.{refl, sym, ap}
use Rattle.std.proofs.Common.{◌∙◌, true≢false}
use Rattle.std.proofs.Math.Bool.{true, false, cond}
use mathlib.Core.List.{List, [], ◌∷◌, ◌++◌}
use Rattle.std.proofs.Math.Dec.{ltb}
use Rattle.std.proofs.Math.ListN.{length}
use borrow.Author.Tests.{eqb-true, eqb-false, eq-eqb, ne_eqb, lt-ltb}
use Rattle.keys.specs.Sorting.{count, SameCounts}
use Rattle.keys.specs.laws.SortingTheorems.{by_test}
use Rattle.scan.specs.declared.rays.RayHit.{RayHit}
use Rattle.scan.specs.declared.rays.RayHit.TheVariants.{Miss, Hit, Degenerate}
use Rattle.scan.specs.declared.votes.Parity.TheVariants.{Odd, Even}
use Rattle.scan.specs.Scan.{Vote, which, some, is_hit, is_degenerate, vote_over}
use Rattle.scan.specs.steps.VoteSteps.{with_found, cast_over}

module _ (test : ℕ → Bool) where
  pub which_nothing : which test [] ≡ []
  unfolding which
  which_nothing = refl

  -- one number more
  pub length_which : (x : ℕ) (l : List ℕ) → length (which test (x ∷ l)) ≡ cond (test x) 1 0 + length (which test l)
  unfolding which
  length_which x l = go (test x)
    where
      go : (b : Bool) → length (cond b (x ∷ which test l) (which test l)) ≡ cond b 1 0 + length (which test l)
      go true = omega arith
      go false = omega arith

  -- two parts
  pub which_append : (l m : List ℕ) → which test (l ++ m) ≡ which test l ++ which test m
  unfolding which
  which_append [] m = refl
  which_append (x ∷ l) m = rw (which_append l m) (go (test x))
    where
      go : (b : Bool) → cond b (x ∷ (which test l ++ which test m)) (which test l ++ which test m) ≡ cond b (x ∷ which test l) (which test l) ++ which test m
      go true = refl
      go false = refl

  -- each number for which the test holds stands there as often as in the list
  count_which : (k : ℕ) (l : List ℕ) → count k (which test l) ≡ cond (test k) (count k l) 0
  unfolding which count
  count_which k [] = by_test (test k) (λ e. rw e) (λ e. rw e)
  count_which k (x ∷ l) = by_test (test x) (λ e. rw e (holds e (count_which k l))) (λ e. rw e (fails e (count_which k l)))
    where
      holds : test x ≡ true → count k (which test l) ≡ cond (test k) (count k l) 0 → cond (eqb k x) 1 0 + count k (which test l) ≡ cond (test k) (cond (eqb k x) 1 0 + count k l) 0
      holds t rest =
          by_test
          (test k)
          (λ e. rw (rest, e))
          (λ e. rw (rest, e, ne_eqb k x (λ h. true≢false (sym t ∙ ap test (sym h) ∙ e))))

      fails : test x ≡ false → count k (which test l) ≡ cond (test k) (count k l) 0 → count k (which test l) ≡ cond (test k) (cond (eqb k x) 1 0 + count k l) 0
      fails f rest =
          by_test
          (test k)
          (λ e. rw (rest, e, ne_eqb k x (λ h. true≢false (sym e ∙ ap test h ∙ f))) (omega arith))
          (λ e. rw (rest, e))

  -- the order does not count
  pub which_permuted : (l m : List ℕ) → SameCounts l m → SameCounts (which test l) (which test m)
  which_permuted l m same k = rw (count_which k l, count_which k m, same k)

  pub some_nothing : some test [] ≡ false
  unfolding some which
  some_nothing = refl

  pub some_cons : (x : ℕ) (l : List ℕ) → some test (x ∷ l) ≡ (test x || some test l)
  unfolding some which
  some_cons x l = go (test x)
    where
      go : (b : Bool) → ltb 0 (length (cond b (x ∷ which test l) (which test l))) ≡ (b || ltb 0 (length (which test l)))
      go true = lt-ltb 0 (suc (length (which test l))) (omega arith)
      go false = refl

  pub some_append : (l m : List ℕ) → some test (l ++ m) ≡ (some test l || some test m)
  some_append [] m = rw some_nothing
  some_append (x ∷ l) m = some_cons x (l ++ m) ∙ rw (some_append l m, some_cons x l) (go (test x))
    where
      go : (b : Bool) → (b || (some test l || some test m)) ≡ ((b || some test l) || some test m)
      go true = refl
      go false = refl

-- ---- votes

-- the vote of n Hits
abbrev parity : ℕ → Vote
parity n = cond (eqb (n % 2) 1) (Some Odd) (Some Even)

-- one Hit more
parity_hit : (n : ℕ) → with_found (parity n) Hit ≡ parity (n + 1)
unfolding with_found
parity_hit n =
    by_test
    (eqb (n % 2) 1)
    (λ e. let odd = eqb-true (n % 2) 1 e in rw (e, ne_eqb ((n + 1) % 2) 1 (λ one. omega arith)))
    (λ e. let even = eqb-false (n % 2) 1 e in rw (e, eq-eqb ((n + 1) % 2) 1 (omega arith)))

none_stays : (hit : RayHit) → with_found None hit ≡ None
unfolding with_found
none_stays Miss = refl
none_stays Hit = refl
none_stays Degenerate = refl

module _ (find : ℕ → RayHit) where
  -- two parts
  pub cast_over_append : (v : Vote) (l m : List ℕ) → cast_over find v (l ++ m) ≡ cast_over find (cast_over find v l) m
  unfolding cast_over
  cast_over_append v [] m = refl
  cast_over_append v (t ∷ l) m = cast_over_append (with_found v (find t)) l m

  -- a Degenerate triangle ends the vote
  pub cast_over_none : (l : List ℕ) → cast_over find None l ≡ None
  unfolding cast_over
  cast_over_none [] = refl
  cast_over_none (t ∷ l) = rw (none_stays (find t)) (cast_over_none l)

  abbrev degenerate : ℕ → Bool
  degenerate t = is_degenerate (find t)

  abbrev hits : List ℕ → ℕ
  hits l = length (which (λ t. is_hit (find t)) l)

  -- one triangle more, behind n Hits, if this holds of the triangles that follow
  cast_one : (n : ℕ) (hit : RayHit) (l : List ℕ) → ((k : ℕ) → cast_over find (parity k) l ≡ cond (some degenerate l) None (parity (k + hits l)))
      → cast_over find (with_found (parity n) hit) l ≡ cond (is_degenerate hit || some degenerate l) None (parity (n + (cond (is_hit hit) 1 0 + hits l)))
  unfolding is_degenerate is_hit with_found
  cast_one n Miss l rest =
      let same : n + (0 + hits l) ≡ n + hits l = omega arith in
      rw same (rest n)
  cast_one n Hit l rest =
      let same : n + (1 + hits l) ≡ n + 1 + hits l = omega arith in
      rw (parity_hit n, same) (rest (n + 1))
  cast_one n Degenerate l rest = cast_over_none l

  -- triangles one after another, behind n Hits
  cast_vote : (n : ℕ) (l : List ℕ) → cast_over find (parity n) l ≡ cond (some degenerate l) None (parity (n + hits l))
  unfolding cast_over
  cast_vote n [] =
      let same : n + hits [] ≡ n = unfold which in omega arith in
      rw (some_nothing degenerate, same)
  cast_vote n (t ∷ l) = rw (some_cons degenerate t l, length_which (λ t. is_hit (find t)) t l) (cast_one n (find t) l (λ k. cast_vote k l))

  -- the vote of a list is what is found at its triangles one after another
  pub vote_over_cast : (l : List ℕ) → vote_over find l ≡ cast_over find (Some Even) l
  unfolding vote_over
  vote_over_cast l = sym (cast_vote 0 l ∙ rw same)
    where
      same : 0 + hits l ≡ hits l
      same = omega arith

  -- lists with as many Degenerate triangles and as many Hits have the same vote
  pub vote_over_same : (l m : List ℕ) → length (which degenerate l) ≡ length (which degenerate m) → hits l ≡ hits m → vote_over find l ≡ vote_over find m
  unfolding vote_over some
  vote_over_same l m none some = rw (none, some)
