-- The keys in ascending order tell whether the mesh is closed (`closed_keys_closed`): they stand in pairs exactly when each of them stands twice,
-- and, of vertices below 65,536, a key stands as often as its edge is used (`count_keys`).
-- In ascending order all copies of a key stand together, and without the first pair the other keys stand as often as before (`twice_in_behind`).
use Rattle.std.specs.Prelude.{ℕ, ◌+◌, ◌≤◌, ◌<◌, Bool, true, false, ◌&&◌, ◌≡◌, refl, ◌⊎◌, List, [], ◌∷◌, map, eqb, ltb, length, take}
use Rattle.std.proofs.Common.{arith, ap, ◌∙◌, inl, inr, ⊎_elim, sym, subst, eq-eqb, ne_eqb, eqb-true}
use Rattle.keys.specs.Sorting.{insert_by, sorted_by, sorted, count, SameCounts, AscendingBy, Ascending}
use Rattle.lent.specs.Every.{Every}
use Rattle.keys.specs.laws.SortingTheorems.{le_or_lt, eq_or_ne, insert_here, insert_past, all_map, count_cons, length_sorted, sorted_ascending, sorted_permutation}
use Rattle.lent.specs.Over.{over}
use Rattle.lent.specs.laws.OverLaws.{take_over}
use Rattle.mesh_questions.specs.Faces.{faces}
use Rattle.mesh_questions.specs.laws.FaceLaws.{length_faces}
use Rattle.mesh_questions.specs.MeshQuestions.{ends_fit}
use mathlib.Core.List.{flatten}
use Rattle.std.specs.List.{list_all}
use Rattle.lent.specs.Every.{Every}
use Rattle.edges.specs.Edges.{Edge, edges, key_of, edge_keys, uses, all_twice, closed}
use Rattle.edges.specs.steps.Below.{Below, EdgeBelow}
use Rattle.edges.specs.steps.Pairs.{starts_with, in_pairs, closed_keys}
use Rattle.edges.specs.laws.EdgeLaws.{edge_key_same, edges_below, flatten_faces, length_edge_keys}

-- ---- keys

-- whether each of these keys stands exactly twice among the keys
abbrev twice_in : List ℕ → List ℕ → Bool
twice_in keys asked = list_all (λ key. eqb (count key keys) 2) asked

-- the order of those that are asked does not matter

pub and_swap : (a b c : Bool) → (a && (b && c)) ≡ (b && (a && c))
and_swap true true c = refl
and_swap true false c = refl
and_swap false true c = refl
and_swap false false c = refl

-- the answer depends on the counts alone
twice_in_counts : (l m asked : List ℕ) → SameCounts l m → twice_in l asked ≡ twice_in m asked
twice_in_counts l m [] same = refl
twice_in_counts l m (key ∷ asked) same = rw (same key, twice_in_counts l m asked same)

twice_in_insert : (keys : List ℕ) (x : ℕ) (l : List ℕ) → twice_in keys (insert_by (λ k. k) x l) ≡ twice_in keys (x ∷ l)
unfolding insert_by
twice_in_insert keys x [] = refl
twice_in_insert keys x (y ∷ l) =
    ⊎_elim
    (λ h. rw (insert_here (λ k. k) x y l h))
    (λ h. rw (insert_past (λ k. k) x y l h, twice_in_insert keys x l) (and_swap (eqb (count y keys) 2) (eqb (count x keys) 2) (twice_in keys l)))
    (le_or_lt x y)

twice_in_sorted : (keys l : List ℕ) → twice_in keys (sorted l) ≡ twice_in keys l
unfolding sorted_by
twice_in_sorted keys [] = refl
twice_in_sorted keys (x ∷ l) = twice_in_insert keys x (sorted l) ∙ rw (twice_in_sorted keys l)

-- ---- pairs

count_behind : (k : ℕ) (l : List ℕ) → Every (λ x. k < x) l → count k l ≡ 0
unfolding count
count_behind k [] a = refl
count_behind k (x ∷ l) a = let h = a.0 in omega (arith, count_cons k x l, count_behind k l a.1)

-- a key that is smaller than those that are asked does not matter
twice_in_behind : (k : ℕ) (l asked : List ℕ) → Every (λ x. k < x) asked → twice_in (k ∷ l) asked ≡ twice_in l asked
twice_in_behind k l [] a = refl
twice_in_behind k l (x ∷ asked) a =
    let h = a.0 in
    let same : count x (k ∷ l) ≡ count x l = omega (arith, count_cons x k l) in
    rw (same, twice_in_behind k l asked a.1)

-- an ascending list that begins at k or later begins with k or has no k
begins : (k : ℕ) (l : List ℕ) → Every (λ x. k ≤ x) l → Ascending l
    → ((starts_with k l ≡ true) × (0 < count k l)) ⊎ ((starts_with k l ≡ false) × Every (λ x. k < x) l)
unfolding AscendingBy starts_with
begins k [] a asc = inr (refl, tt)
begins k (x ∷ l) a asc =
    let h = a.0 in
    ⊎_elim
    (λ e. inl (eq-eqb x k e, omega (arith, count_cons k x l)))
    (λ n. inr (ne_eqb x k n, (omega arith, all_map (λ y. x ≤ y) (λ y. k < y) l (λ y g. omega arith) asc.0)))
    (eq_or_ne x k)

-- behind a pair the answer is that of the keys that follow, unless the first of them is the same a third time
pair : (k : ℕ) (l : List ℕ) → Every (λ x. k ≤ x) l → Ascending l → in_pairs l ≡ twice_in l l → in_pairs (k ∷ k ∷ l) ≡ twice_in (k ∷ k ∷ l) (k ∷ k ∷ l)
unfolding in_pairs
pair k l a asc rest = ⊎_elim more no_more (begins k l a asc)
  where
    twice : count k (k ∷ k ∷ l) ≡ 2 + count k l
    twice = omega (arith, count_cons k k (k ∷ l), count_cons k k l)

    more : (starts_with k l ≡ true) × (0 < count k l) → in_pairs (k ∷ k ∷ l) ≡ twice_in (k ∷ k ∷ l) (k ∷ k ∷ l)
    more w =
        let h = w.1 in
        let n = ne_eqb (count k (k ∷ k ∷ l)) 2 (λ e. omega (arith, twice)) in
        rw (w.0, n, eq-eqb k k refl)

    no_more : (starts_with k l ≡ false) × Every (λ x. k < x) l → in_pairs (k ∷ k ∷ l) ≡ twice_in (k ∷ k ∷ l) (k ∷ k ∷ l)
    no_more w =
        let y = eq-eqb (count k (k ∷ k ∷ l)) 2 (omega (arith, twice, count_behind k l w.1)) in
        rw (w.0, y, eq-eqb k k refl, twice_in_behind k (k ∷ l) l w.1, twice_in_behind k l l w.1) rest

in_pairs_twice : (l : List ℕ) → Ascending l → in_pairs l ≡ twice_in l l
unfolding AscendingBy in_pairs starts_with
in_pairs_twice [] asc = refl
in_pairs_twice (k ∷ []) asc = rw (ne_eqb (count k (k ∷ [])) 2 (λ e. omega (arith, count_cons k k [], count_behind k [] tt)))
in_pairs_twice (k ∷ x ∷ l) asc =
    ⊎_elim
    (λ w. subst (λ y. in_pairs (k ∷ y ∷ l) ≡ twice_in (k ∷ y ∷ l) (k ∷ y ∷ l)) (sym (eqb-true x k w.0)) (pair k l asc.0.1 asc.1.1 (in_pairs_twice l asc.1.1)))
    (λ w. rw (w.0, ne_eqb (count k (k ∷ x ∷ l)) 2 (λ e. omega (arith, count_cons k k (x ∷ l), count_behind k (x ∷ l) w.1))))
    (begins k (x ∷ l) asc.0 asc.1)

-- ---- edges

-- a key stands as often as its edge is used
count_keys : (e : Edge) (l : List Edge) → EdgeBelow 65536 e → Every (EdgeBelow 65536) l → count (key_of e) (map key_of l) ≡ uses e l
unfolding count uses
count_keys e [] p a = refl
count_keys e (f ∷ l) p a = rw (edge_key_same e f p a.0, count_keys e l p a.1)

twice_in_keys : (all l : List Edge) → Every (EdgeBelow 65536) all → Every (EdgeBelow 65536) l → twice_in (map key_of all) (map key_of l) ≡ list_all (λ e. eqb (uses e all) 2) l
twice_in_keys all [] a b = refl
twice_in_keys all (e ∷ l) a b = rw (count_keys e all b.0 a, twice_in_keys all l a b.1)

-- of vertices below 65,536 the keys in ascending order tell whether the mesh is closed
pub closed_keys_closed : (fs : List (List ℕ)) → Below 65536 (flatten fs) → closed_keys (length fs) (sorted (edge_keys fs)) ≡ closed fs
unfolding closed_keys closed all_twice edge_keys
closed_keys_closed fs below =
    let all = edges fs in
    let keys = map key_of all in
    let few = edges_below 65536 fs below in
    let pairs = in_pairs_twice (sorted keys) (sorted_ascending keys) ∙ twice_in_counts (sorted keys) keys (sorted keys) (sorted_permutation keys) ∙ twice_in_sorted keys keys in
    ap (λ b. ltb 0 (length fs) && b) (pairs ∙ twice_in_keys all all few few)

module _ (corners ends : List ℕ) (fit : ends_fit 0 (length corners) ends ≡ true) where
  -- there is a key for each corner
  pub length_sorted_keys : length (sorted (edge_keys (faces corners ends))) ≡ length corners
  length_sorted_keys = length_sorted (edge_keys (faces corners ends)) ∙ length_edge_keys corners ends fit

  -- the same of a mesh: it has as many faces as ends
  closed_keys_mesh : Below 65536 corners → closed_keys (length ends) (sorted (edge_keys (faces corners ends))) ≡ closed (faces corners ends)
  closed_keys_mesh below =
      rw (length_faces corners ends) at (closed_keys_closed (faces corners ends) (rw (flatten_faces corners ends fit) below))

  -- what `is_closed` tells by the keys at the front of a buffer
  pub closed_of : (work₀ work : List ℕ) (answer : Bool) → Below 65536 corners → work ≡ over (sorted (edge_keys (faces corners ends))) work₀ → answer ≡ closed_keys (length ends) (take (length corners) work)
      → answer ≡ closed (faces corners ends)
  closed_of work₀ work answer below e h =
      let front : take (length corners) work ≡ sorted (edge_keys (faces corners ends)) = rw e (take_over _ work₀ _ length_sorted_keys) in
      rw (h, front) (closed_keys_mesh below)
