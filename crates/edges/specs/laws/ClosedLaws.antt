-- Whether a mesh is closed depends neither on the order of its faces (`closed_reordered`) nor on how its vertices are numbered (`closed_renumbered`).
-- Both times each edge is used as often as before: in another order (`uses_reordered`), and between other vertices, where different ones stay different (`uses_renumbered`).
use Rattle.std.specs.Prelude.{ℕ, ◌+◌, ◌<◌, ◌≡◌, refl, Bool, List, [], ◌∷◌, ◌++◌, map, eqb}
use Rattle.std.proofs.Common.{arith, ap, ◌∙◌, sym, ⊎_elim, eq-eqb, ne_eqb}
use Rattle.std.proofs.Math.Path.{fun_ext}
use Rattle.std.proofs.lemmas.List.{map-append, length-map}
use Rattle.std.proofs.lemmas.List.Folds.{list_all-append}
use Rattle.std.specs.List.{list_all}
use mathlib.Core.List.{flatten}
use Rattle.keys.specs.laws.SortingTheorems.{eq_or_ne}
use Rattle.lent.specs.Reordered.{Reordered, none, keep, exchange, twice}
use Rattle.lent.specs.Every.{Every}
use Rattle.lent.specs.laws.ReorderedLaws.{reordered_sum, length_reordered}
use Rattle.edges.specs.Edges.{Edge, edge, edges_from, face_edges, edges, same_edge, uses, all_twice, closed}
use Rattle.edges.specs.steps.Below.{Below, EdgeBelow}
use Rattle.edges.specs.laws.EdgeLaws.{edges_below}
use Rattle.edges.specs.laws.PairLaws.{and_swap}

-- ---- the order of the faces

uses_append : (e : Edge) (l m : List Edge) → uses e (l ++ m) ≡ uses e l + uses e m
unfolding uses
uses_append e [] m = omega arith
uses_append e (f ∷ l) m = omega (arith, uses_append e l m)

-- each edge is used as often
uses_reordered : {fs gs : List (List ℕ)} → Reordered fs gs → (e : Edge) → uses e (edges fs) ≡ uses e (edges gs)
unfolding edges
uses_reordered r e =
    reordered_sum (λ fs. uses e (edges fs)) (λ face. uses e (face_edges face)) (λ face rest. uses_append e (face_edges face) (edges rest)) r

-- what holds of each edge does so in any order
each_reordered : (test : Edge → Bool) {fs gs : List (List ℕ)} → Reordered fs gs → list_all test (edges fs) ≡ list_all test (edges gs)
unfolding edges
each_reordered test none = refl
each_reordered test (keep face r) = simp (list_all-append, each_reordered test r)
each_reordered test (exchange x y l) =
    simp list_all-append (and_swap (list_all test (face_edges x)) (list_all test (face_edges y)) (list_all test (edges l)))
each_reordered test (twice r s) = each_reordered test r ∙ each_reordered test s

pub closed_reordered : {fs gs : List (List ℕ)} → Reordered fs gs → closed fs ≡ closed gs
unfolding closed all_twice
closed_reordered {fs} {gs} r =
    let used : (λ e. eqb (uses e (edges fs)) 2) ≡ (λ e. eqb (uses e (edges gs)) 2) = fun_ext (λ e. ap (λ n. eqb n 2) (uses_reordered r e)) in
    rw (length_reordered r, used, each_reordered (λ e. eqb (uses e (edges gs)) 2) r)

-- ---- the numbers of the vertices

module _ (s : ℕ → ℕ) where
  abbrev renumbered : Edge → Edge
  renumbered e = edge (s e.from) (s e.to)

  -- the edges of renumbered faces
  edges_from_map : (first : ℕ) (l : List ℕ) → edges_from (s first) (map s l) ≡ map renumbered (edges_from first l)
  unfolding edges_from
  edges_from_map first [] = refl
  edges_from_map first (x ∷ []) = refl
  edges_from_map first (x ∷ y ∷ l) = rw (edges_from_map first (y ∷ l))

  face_edges_map : (face : List ℕ) → face_edges (map s face) ≡ map renumbered (face_edges face)
  unfolding face_edges
  face_edges_map [] = refl
  face_edges_map (x ∷ face) = edges_from_map x (x ∷ face)

  edges_map : (fs : List (List ℕ)) → edges (map (map s) fs) ≡ map renumbered (edges fs)
  unfolding edges
  edges_map [] = refl
  edges_map (face ∷ rest) =
      rw (face_edges_map face, edges_map rest) (sym (map-append renumbered (face_edges face) (edges rest)))

  module _ (n : ℕ) (apart : (a b : ℕ) → a < n → b < n → s a ≡ s b → a ≡ b) where
    same_number : (a b : ℕ) → a < n → b < n → eqb (s a) (s b) ≡ eqb a b
    same_number a b p q =
        ⊎_elim
        (λ e. eq-eqb (s a) (s b) (ap s e) ∙ sym (eq-eqb a b e))
        (λ ne. ne_eqb (s a) (s b) (λ e. ne (apart a b p q e)) ∙ sym (ne_eqb a b ne))
        (eq_or_ne a b)

    same_renumbered : (e f : Edge) → EdgeBelow n e → EdgeBelow n f → same_edge (renumbered e) (renumbered f) ≡ same_edge e f
    unfolding same_edge
    same_renumbered e f p q =
        rw (same_number e.from f.from p.0 q.0, same_number e.to f.to p.1 q.1, same_number e.from f.to p.0 q.1, same_number e.to f.from p.1 q.0)

    -- each edge is used as often
    uses_renumbered : (e : Edge) (l : List Edge) → EdgeBelow n e → Every (EdgeBelow n) l → uses (renumbered e) (map renumbered l) ≡ uses e l
    unfolding uses
    uses_renumbered e [] p a = refl
    uses_renumbered e (f ∷ l) p a = rw (same_renumbered e f p a.0, uses_renumbered e l p a.1)

    each_renumbered : (all l : List Edge) → Every (EdgeBelow n) all → Every (EdgeBelow n) l → list_all (λ e. eqb (uses e (map renumbered all)) 2) (map renumbered l) ≡ list_all (λ e. eqb (uses e all) 2) l
    each_renumbered all [] a b = refl
    each_renumbered all (e ∷ l) a b = rw (uses_renumbered e all b.0 a, each_renumbered all l a b.1)

-- numbers below n, of which s keeps different ones different
pub closed_renumbered : (n : ℕ) (s : ℕ → ℕ) → ((a b : ℕ) → a < n → b < n → s a ≡ s b → a ≡ b) → (fs : List (List ℕ)) → Below n (flatten fs) → closed (map (map s) fs) ≡ closed fs
unfolding closed all_twice
closed_renumbered n s apart fs below =
    let few = edges_below n fs below in
    rw (length-map fs (map s), edges_map s fs, each_renumbered s n apart (edges fs) (edges fs) few few)
