-- The laws of where a walk begins.
use Prim.Native.Nat.{ℕ, ◌/◌, ◌≤◌, ◌<◌}
use Rattle.std.proofs.Common.{le_refl, arith, sym, eq-eqb, ne_eqb}
use Rattle.std.specs.Prelude.{◌≡◌, Bool, true, false, eqb, length}
use Rattle.std.proofs.Math.Path.{refl}
use Rattle.std.proofs.Math.Logic.{⊎_elim}
use mathlib.Core.List.{List, [], append-nil}
use Rattle.std.proofs.Math.ListN.{get_or, replicate, length-replicate, get_or-replicate}
use Rattle.keys.specs.laws.SortingTheorems.{by_test}
use Rattle.math.specs.declared.BoundingBox.{BoundingBox}
use Rattle.math.specs.BoundingBoxes.{is_empty}
use Rattle.mesh.specs.Mesh.{Mesh, triangle_count}
use Rattle.tree.specs.Tree.{Tree, stride, node_count, box_of}
use Rattle.tree.specs.TreeRules.{Subtree, TreeRules}
use Rattle.walks.specs.Walks.{all_visits, reached}
use Rattle.walks.specs.steps.Leaves.{Ready}
use Rattle.walks.specs.laws.WalkLaws.{below, below_out}
use Rattle.walks.specs.laws.ReadyLaws.{node_some}
use Rattle.walks.specs.steps.Stacks.{none, more, Walking, pending_from, pending, Begins, place}

module _ (m : Mesh) (t : Tree) (rules : TreeRules m t) (some : stride ≤ length t.nodes) where
  root : Subtree m t 32 0 0 (node_count t) (triangle_count m)
  unfolding node_count
  root = ⊎_elim (λ h. absurd (omega (arith, h.1))) (λ h. h.1) rules.tree

  pub root_some : Ready m t → is_empty (box_of t 0) ≡ false
  root_some ready = node_some ready 32 0 0 (node_count t) (triangle_count m) root (le_refl (triangle_count m))

  -- a walk starts at the root, if its box passes
  pub start : (passes : BoundingBox → Bool) → passes (box_of t 0) ≡ true → Walking m t passes (replicate 32 (length t.nodes / stride)) (place 0 1)
  unfolding node_count
  start passes p =
      let s = replicate 32 (length t.nodes / stride) in
      let bottom : get_or s 0 0 ≡ node_count t = get_or-replicate 32 0 (length t.nodes / stride) 0 (omega arith) in
      record {
        long = length-replicate {A = ℕ} 32 (length t.nodes / stride);
        first = 0;
        chain = more {k = 0} {n' = node_count t} {i' = triangle_count m} p root (rw bottom (le_refl (node_count t))) (le_refl (triangle_count m)) (none {n = get_or s 0 0} (rw bottom (le_refl (node_count t))) (le_refl (triangle_count m)));
      }

-- or has ended at once
pub ended : (m : Mesh) (t : Tree) (passes : BoundingBox → Bool) (bottom : ℕ) → Walking m t passes (replicate 32 bottom) (place 0 0)
ended m t passes bottom = record { long = length-replicate {A = ℕ} 32 bottom; first = 0; chain = none (omega arith) (omega arith) }

-- from there it comes to all that it comes to
pub start_same : (t : Tree) (passes : BoundingBox → Bool) (s : List ℕ) → stride ≤ length t.nodes → pending t passes s (place 0 1) ≡ reached (all_visits t passes)
unfolding pending_from all_visits node_count
start_same t passes s some = rw (ne_eqb (length t.nodes / stride) 0 (λ z. omega arith)) (append-nil (below t passes 32 0))

-- it comes to nothing if there is no root, or its box does not pass
pub no_root : (t : Tree) (passes : BoundingBox → Bool) → length t.nodes < stride → reached (all_visits t passes) ≡ []
unfolding all_visits node_count reached
no_root t passes few = rw (eq-eqb (length t.nodes / stride) 0 (omega arith)) refl

pub root_out : (t : Tree) (passes : BoundingBox → Bool) → passes (box_of t 0) ≡ false → reached (all_visits t passes) ≡ []
unfolding all_visits
root_out t passes e = by_test (eqb (node_count t) 0) (λ z. rw z (unfold reached in refl)) (λ z. rw z (below_out t passes 32 0 e))

-- so that is how it begins
module _ {m : Mesh} {t : Tree} {passes : BoundingBox → Bool} where
  pub begins_rootless : length t.nodes < stride → Begins m t passes (place 0 0)
  unfolding pending_from
  begins_rootless few = record { walking = ended m t passes (length t.nodes / stride); coming = sym (no_root t passes few) }

  pub begins_outside : passes (box_of t 0) ≡ false → Begins m t passes (place 0 0)
  unfolding pending_from
  begins_outside e = record { walking = ended m t passes (length t.nodes / stride); coming = sym (root_out t passes e) }

  pub begins_at_root : TreeRules m t → 2 ≤ length t.nodes → passes (box_of t 0) ≡ true → Begins m t passes (place 0 1)
  begins_at_root rules some e = record { walking = start m t rules some passes e; coming = start_same t passes _ some }
