-- The laws of edges and their keys: one a corner (`length_edge_keys`), each key below 2^32 (`edge_keys_small`), and the same key exactly for
-- the same edge unordered (`edge_key_same`).
use Rattle.std.specs.Prelude.{ℕ, zero, suc, ◌+◌, ◌-◌, ◌*◌, ◌^◌, min, max, ◌<◌, true, ◌≡◌, length, get_or, drop, leb, eqb, Float}
use Rattle.std.proofs.Common.{not-suc-le-zero, le_of_suc-le-suc, arith, sym, ap, ◌∙◌, ⊎_elim, length-append, take-append-drop, drop-drop, leb-true, eqb-true, le-leb}
use Rattle.std.proofs.Math.Path.{refl}
use mathlib.Core.List.{List, [], ◌∷◌, ◌++◌, map, map-append, flatten}
use Rattle.std.proofs.Math.Seq.{drop-length}
use Rattle.std.proofs.lemmas.Bool.{lt-leb}
use Rattle.std.proofs.lemmas.Bool.Decides.{nat_tests}
use Rattle.refusal.specs.laws.VerdictLaws.{both}
use Rattle.lent.specs.Every.{Every}
use Rattle.keys.specs.steps.Passes.{Small}
use Rattle.keys.specs.laws.SortingTheorems.{le_or_lt, all_at, all_of}
use Rattle.keys.specs.laws.Permutations.{all_split}
use Rattle.lent.specs.Every.{Every}
use Rattle.mesh_questions.specs.Faces.{faces, faces_from}
use Rattle.mesh_questions.specs.MeshQuestions.{ends_fit}
use Rattle.mesh_questions.specs.steps.Accepted.{Accepted}
use Rattle.edges.specs.Edges.{Edge, edge, edges_from, face_edges, edges, edge_key, key_of, face_keys, edge_keys, same_edge}
use Rattle.edges.specs.steps.Below.{Below, EdgeBelow}

-- ---- one edge

-- the key in terms that `omega` reads
pub edge_key_min : (a b : ℕ) → edge_key a b ≡ min a b * 65536 + max a b
unfolding edge_key
edge_key_min a b =
    ⊎_elim (λ h. rw (le-leb a b h) (omega arith)) (λ h. rw (lt-leb a b h) (omega arith)) (le_or_lt a b)

-- of vertices below 65,536 a key stands for one edge: two edges have one key exactly when they are the same unordered
pub edge_key_same : (e f : Edge) → EdgeBelow 65536 e → EdgeBelow 65536 f → eqb (key_of e) (key_of f) ≡ same_edge e f
unfolding same_edge
edge_key_same e f p q =
    let k = edge_key_min e.from e.to in
    let m = edge_key_min f.from f.to in
    grind (arith, nat_tests)

-- ---- one face

-- each corner's edge goes to the corner behind it, and to `first` where there is none
edges_from_cons : (first a : ℕ) (l : List ℕ) → edges_from first (a ∷ l) ≡ edge a (get_or l 0 first) ∷ edges_from first l
unfolding edges_from
edges_from_cons first a [] = refl
edges_from_cons first a (b ∷ l) = refl

-- the keys of these edges
abbrev pub keys_from : ℕ → List ℕ → List ℕ
keys_from first l = map key_of (edges_from first l)

pub length_keys_from : (first : ℕ) (l : List ℕ) → length (keys_from first l) ≡ length l
length_keys_from first [] = unfold edges_from in refl
length_keys_from first (a ∷ l) = rw (edges_from_cons first a l) (ap suc (length_keys_from first l))

pub keys_from_at : (first : ℕ) (l : List ℕ) (i : ℕ) → i < length l → get_or (keys_from first l) i 0 ≡ edge_key (get_or l i 0) (get_or l (suc i) first)
keys_from_at first [] i h = absurd (not-suc-le-zero h)
keys_from_at first (a ∷ l) zero h = rw (edges_from_cons first a l)
keys_from_at first (a ∷ l) (suc i) h = rw (edges_from_cons first a l) (keys_from_at first l i (le_of_suc-le-suc h))

pub length_face_keys : (face : List ℕ) → length (face_keys face) ≡ length face
unfolding face_keys face_edges
length_face_keys [] = refl
length_face_keys (a ∷ face) = length_keys_from a (a ∷ face)

-- ---- all faces

-- the faces' corners, face after face, are the corners from `start` on
flatten_faces_from : (start : ℕ) (corners ends : List ℕ) → ends_fit start (length corners) ends ≡ true
    → flatten (faces_from start corners ends) ≡ drop start corners
unfolding ends_fit faces_from flatten
flatten_faces_from start corners [] e = rw (eqb-true start (length corners) e) (sym (drop-length corners))
flatten_faces_from start corners (end ∷ ends) e =
    let parts = both (leb start end) (ends_fit end (length corners) ends) e in
    let sum : start + (end - start) ≡ end = omega (arith, leb-true start end parts.0) in
    let rest = drop-drop (end - start) start corners ∙ ap (λ n. drop n corners) sum in
    rw (flatten_faces_from end corners ends parts.1, ← rest) (take-append-drop (end - start) (drop start corners))

-- the faces' corners, face after face, are the corners
pub flatten_faces : (corners ends : List ℕ) → ends_fit 0 (length corners) ends ≡ true → flatten (faces corners ends) ≡ corners
unfolding faces
flatten_faces corners ends e = flatten_faces_from 0 corners ends e

-- the keys of a face stand before those of the faces behind it
pub edge_keys_cons : (face : List ℕ) (rest : List (List ℕ)) → edge_keys (face ∷ rest) ≡ face_keys face ++ edge_keys rest
unfolding edge_keys face_keys edges
edge_keys_cons face rest = map-append key_of (face_edges face) (edges rest)

length_keys : (fs : List (List ℕ)) → length (edge_keys fs) ≡ length (flatten fs)
unfolding edge_keys edges flatten
length_keys [] = refl
length_keys (face ∷ rest) =
    ap length (edge_keys_cons face rest) ∙ simp (length-append, length_face_keys, length_keys rest)

-- a mesh has one key a corner
pub length_edge_keys : (corners ends : List ℕ) → ends_fit 0 (length corners) ends ≡ true → length (edge_keys (faces corners ends)) ≡ length corners
length_edge_keys corners ends e = length_keys (faces corners ends) ∙ ap length (flatten_faces corners ends e)

-- ---- a bound on the vertices

every_append : {A : Type 0} (P : A → Type 0) (l m : List A) → Every P l → Every P m → Every P (l ++ m)
every_append P [] m p q = q
every_append P (x ∷ l) m p q = (p.0, every_append P l m p.1 q)

-- edges have no other vertices than the corners
module _ (n : ℕ) where
  edges_from_below : (first : ℕ) (l : List ℕ) → first < n → Below n l → Every (EdgeBelow n) (edges_from first l)
  unfolding edges_from
  edges_from_below first [] p a = tt
  edges_from_below first (x ∷ []) p a = ((a.0, p), tt)
  edges_from_below first (x ∷ y ∷ l) p a = ((a.0, a.1.0), edges_from_below first (y ∷ l) p a.1)

  face_edges_below : (face : List ℕ) → Below n face → Every (EdgeBelow n) (face_edges face)
  unfolding face_edges
  face_edges_below [] a = tt
  face_edges_below (x ∷ face) a = edges_from_below x (x ∷ face) a.0 a

  pub edges_below : (fs : List (List ℕ)) → Below n (flatten fs) → Every (EdgeBelow n) (edges fs)
  unfolding edges flatten
  edges_below [] a = tt
  edges_below (face ∷ rest) a =
      let parts = all_split (λ a. a < n) face (flatten rest) a in
      every_append (EdgeBelow n) (face_edges face) (edges rest) (face_edges_below face parts.0) (edges_below rest parts.1)

-- the corners of an accepted mesh are below 65,536
pub accepted_below : {coords : List Float} {corners ends : List ℕ} → Accepted coords corners ends → Below 65536 corners
accepted_below {corners = corners} m =
    all_of (λ a. a < 65536) corners (λ i h. omega (arith, m.below i h, m.lengths.vertices))

keys_small : (l : List Edge) → Every (EdgeBelow 65536) l → Every (λ k. k < 2 ^ 32) (map key_of l)
keys_small [] a = tt
keys_small (e ∷ l) a = let h = a.0 in (omega (arith, edge_key_min e.from e.to), keys_small l a.1)

-- the keys of corners below 65,536 are below 2^32
pub edge_keys_small : (fs : List (List ℕ)) → Below 65536 (flatten fs) → Small (edge_keys fs)
unfolding edge_keys
edge_keys_small fs below = λ i h. all_at (λ k. k < 2 ^ 32) (map key_of (edges fs)) i (keys_small (edges fs) (edges_below 65536 fs below)) h
