-- `edge_keys` meets its contract. Once the buffer is filled, its first places hold the keys, one a corner and each below 2^32; sorting
-- them leaves the rest of the buffer as it was.
use Prim.Native.Nat.{ℕ}
use native.Mathlib.Omega.{arith}
use mathlib.Core.Bool.{true}
use mathlib.Core.Path.{◌≡◌, sym}
use mathlib.Core.List.{List, ◌++◌}
use lib.ListN.{length, take, drop}
use lib.Seq.{length-take-le}
use Rattle.keys.specs.Sorting.{sorted}
use Rattle.keys.specs.steps.Passes.{Small}
use Rattle.keys.specs.laws.SortingTheorems.{length_sorted}
use Rattle.lent.specs.Over.{over}
use Rattle.lent.specs.laws.OverLaws.{take_over, drop_over}
use Rattle.mesh_questions.specs.Faces.{faces}
use Rattle.mesh_questions.specs.MeshQuestions.{ends_fit}
use Rattle.edges.specs.Edges.{edge_keys}
use Rattle.edges.specs.steps.Below.{Below}
use Rattle.edges.specs.laws.EdgeLaws.{length_edge_keys, flatten_faces, edge_keys_small}
use Rattle.edges.proofs.edge_keys.Goals as goal

module _ (corners ends work₀ work : List ℕ) (fit : ends_fit 0 (length corners) ends ≡ true) (filled : work ≡ over (edge_keys (faces corners ends)) work₀) where
  abbrev keys : List ℕ
  keys = edge_keys (faces corners ends)

  abbrev size : length keys ≡ length corners
  size = length_edge_keys corners ends fit

  front : take (length corners) work ≡ keys
  front = rw filled (take_over keys work₀ _ size)

  front_small : Below 65536 corners → Small (take (length corners) work)
  front_small below = rw front (edge_keys_small (faces corners ends) (rw (flatten_faces corners ends fit) below))

  front_sorted : (part : List ℕ) → part ≡ sorted (take (length corners) work) → part ++ drop (length corners) work ≡ over (sorted keys) work₀
  front_sorted part e = rw (e, front, filled, drop_over keys work₀ _ size) (unfold over in rw (length_sorted keys, size))

pub slice_bounds-sort-end-2 : goal.slice_bounds-sort-end-2
slice_bounds-sort-end-2 c = sym (length-take-le _ c.fill_keys.new.work (omega arith))

pub sort-requires : goal.sort-requires
sort-requires c =
    front_small c.args.corners.now c.args.ends.now _ _ c.requires.ends_value c.fill_keys.ensures c.requires.below

pub returns : goal.returns
returns c =
    front_sorted c.args.corners.now c.args.ends.now _ _ c.requires.ends_value c.fill_keys.ensures _ c.sort.ensures
