-- The filling of a buffer with keys: corner by corner within a face (`key_stored`), and face by face (`Filled`): what was written
-- and the keys of the faces that are left are the keys of all faces.
use Prim.Native.Nat.{ℕ, ◌+◌, ◌-◌, ◌≤◌, ◌<◌}
use native.Mathlib.Numerals.{add-one}
use native.Mathlib.Omega.{arith}
use mathlib.Core.Bool.{true}
use mathlib.Core.Path.{◌≡◌, refl, sym, ◌∙◌}
use mathlib.Core.List.{List, [], ◌∷◌, ◌++◌, append_assoc, append-nil}
use lib.Dec.{leb}
use lib.ListN.{length, get_or, set, take, drop, length-append, length-take, length-drop, drop_of_length-le}
use lib.Seq.{drop-cons}
use borrow.Author.Tests.{leb-true}
use Rattle.refusal.specs.laws.VerdictLaws.{both}
use Rattle.lent.specs.Over.{over}
use Rattle.lent.specs.laws.OverLaws.{over_nothing, over_take, over_on}
use Rattle.mesh_questions.specs.Faces.{faces, faces_from}
use Rattle.mesh_questions.specs.MeshQuestions.{ends_fit}
use Rattle.edges.specs.Edges.{edges_from, face_edges, edges, edge_key, face_keys, edge_keys}
use Rattle.mesh_questions.specs.laws.QuestionLaws.{ends_fit_le}
use Rattle.edges.specs.laws.EdgeLaws.{keys_from, keys_from_at, length_keys_from, length_face_keys, edge_keys_cons}

-- ---- corner by corner

-- a face's edges go round it, from its first corner back to that
face_keys_from : (face : List ℕ) → face_keys face ≡ keys_from (get_or face 0 0) face
unfolding face_keys face_edges edges_from
face_keys_from [] = refl
face_keys_from (a ∷ face) = refl

pub key_stored : (face work : List ℕ) (i next key : ℕ) → i < length face → length face ≤ length work
    → next ≡ get_or face (i + 1) (get_or face 0 0) → key ≡ edge_key (get_or face i 0) next
    → set (over (take i (face_keys face)) work) i key ≡ over (take (i + 1) (face_keys face)) work
key_stored face work i next key h k e f =
    let first = get_or face 0 0 in
    let stored = over_take (keys_from first face) work i 0 (rw (length_keys_from first face) h) (omega arith) in
    let same : key ≡ get_or (keys_from first face) i 0 = f ∙ rw (e, add-one i) (sym (keys_from_at first face i h)) in
    rw (same, face_keys_from face) (sym stored)

-- ---- face by face

-- the buffer once the first f faces are written, whose corners end before `start`
pub record Filled (corners ends work₀ : List ℕ) (start f : ℕ) (work : List ℕ) : Type 0 where
  pub done : List ℕ
  pub size : length done ≡ start
  pub within : start ≤ length corners
  pub written : work ≡ over done work₀
  pub whole : done ++ edge_keys (faces_from start corners (drop f ends)) ≡ edge_keys (faces corners ends)
  pub fits : ends_fit start (length corners) (drop f ends) ≡ true

pub filled_none : (corners ends work₀ : List ℕ) → ends_fit 0 (length corners) ends ≡ true → Filled corners ends work₀ 0 0 work₀
unfolding faces
filled_none corners ends work₀ fit = record {
  done = [];
  size = refl;
  within = omega arith;
  written = sym (over_nothing work₀);
  whole = refl;
  fits = fit;
}

module _ {corners ends work₀ : List ℕ} {start f : ℕ} {work : List ℕ} (filled : Filled corners ends work₀ start f work) where
  pub filled_all : length ends ≤ f → work ≡ over (edge_keys (faces corners ends)) work₀
  unfolding faces_from edge_keys edges
  filled_all h =
      let rest = rw (drop_of_length-le ends h, append-nil) at filled.whole in
      filled.written ∙ rw rest

  -- the next face
  module _ (h : f < length ends) where
    abbrev end : ℕ
    end = get_or ends f 0

    abbrev face : List ℕ
    face = take (end - start) (drop start corners)

    ahead : drop f ends ≡ end ∷ drop (f + 1) ends
    ahead = rw (add-one f) (drop-cons ends f 0 h)

    ends_ahead : (leb start end ≡ true) × (ends_fit end (length corners) (drop (f + 1) ends) ≡ true)
    unfolding ends_fit
    ends_ahead = both _ _ (rw ahead at filled.fits)

    pub next_end : (start ≤ end) × (end ≤ length corners)
    next_end =
        (leb-true start end ends_ahead.0, ends_fit_le end (length corners) (drop (f + 1) ends) ends_ahead.1)

    length_face : length (face_keys face) ≡ end - start
    length_face = length_face_keys face ∙ simp (length-take, length-drop) (omega (arith, next_end))

    -- the buffer with the face's keys behind the others
    pub filled_next : (part : List ℕ) → part ≡ over (face_keys face) (take (end - start) (drop start work))
        → Filled corners ends work₀ end (f + 1) (take start work ++ (part ++ drop (end - start) (drop start work)))
    unfolding faces_from
    filled_next part e = record {
      done = filled.done ++ face_keys face;
      size = simp (length-append, length_face, filled.size) (omega (arith, next_end));
      within = next_end.1;
      written = rw (e, filled.written) (over_on filled.done (face_keys face) work₀ start (end - start) filled.size length_face);
      whole = rw (append_assoc, ← edge_keys_cons) (rw ahead at filled.whole);
      fits = ends_ahead.1;
    }
