-- Where a walk is, and what it still comes to: the subtree of the node that it is at, and those of the nodes on its stack. The boxes of all these nodes passed.
-- Definitions only.
use Prim.Native.Nat.{ℕ, zero, suc, ◌+◌, ◌-◌, ◌/◌, ◌≤◌, ◌<◌}
use Rattle.std.specs.Prelude.{◌≡◌, Bool, true, cond, length, set}
use mathlib.Core.List.{List, [], ◌++◌}
use Rattle.std.proofs.Math.ListN.{get_or, replicate}
use Rattle.math.specs.declared.BoundingBox.{BoundingBox}
use Rattle.mesh.specs.Mesh.{Mesh, triangle_count}
use Rattle.tree.specs.Tree.{Tree, stride, node_count, box_of, count_of}
use Rattle.tree.specs.TreeRules.{Subtree}
use Rattle.walks.specs.declared.nodes.Place.{Place}
use Rattle.walks.specs.Walks.{all_visits, reached}
use Rattle.walks.specs.laws.WalkLaws.{below}

-- so many subtrees are still to be visited: that of node n, whose items begin at place i, and those whose roots the stack has below it. They lie one behind the other,
-- and the one with k others behind it has at most 32 − k nodes on a path.
pub data Chain (m : Mesh) (t : Tree) (passes : BoundingBox → Bool) (s : List ℕ) : (height n i : ℕ) → Type 0 where
  none : {n i : ℕ} → n ≤ node_count t → i ≤ triangle_count m → Chain m t passes s 0 n i
  more : {k n i n' i' next : ℕ} → passes (box_of t n) ≡ true → Subtree m t (32 - k) n i n' i' → n' ≤ get_or s k 0 → i' ≤ next → Chain m t passes s k (get_or s k 0) next → Chain m t passes s (suc k) n i

-- a walk is at a place, with a stack of 32 places
pub record Walking (m : Mesh) (t : Tree) (passes : BoundingBox → Bool) (s : List ℕ) (at : Place) : Type 0 where
  pub long : length s ≡ 32
  pub first : ℕ
  pub chain : Chain m t passes s at.height at.node first

-- the triangles that it still comes to
unfoldable pub pending_from : Tree → (BoundingBox → Bool) → List ℕ → ℕ → ℕ → List ℕ
pending_from t passes s zero n = []
pending_from t passes s (suc k) n = below t passes (32 - k) n ++ pending_from t passes s k (get_or s k 0)

abbrev pub pending : Tree → (BoundingBox → Bool) → List ℕ → Place → List ℕ
pending t passes s at = pending_from t passes s at.height at.node

-- a walk has gone on from one place to another, and still comes to the same
pub record Onward (m : Mesh) (t : Tree) (passes : BoundingBox → Bool) (s : List ℕ) (at : Place) (s' : List ℕ) (at' : Place) : Type 0 where
  pub walking : Walking m t passes s' at'
  pub same : pending t passes s' at' ≡ pending t passes s at
  pub further : at.node ≤ at'.node

-- and has come to a leaf, if not to its end
pub record NextLeaf (m : Mesh) (t : Tree) (passes : BoundingBox → Bool) (s : List ℕ) (at : Place) (s' : List ℕ) (at' : Place) : Type 0 where
  pub onward : Onward m t passes s at s' at'
  pub leaf : 0 < at'.height → 0 < count_of t at'.node

-- where a walk begins, with the number of nodes at each of its stack's places: it comes to all that is to be visited
pub record Begins (m : Mesh) (t : Tree) (passes : BoundingBox → Bool) (at : Place) : Type 0 where
  pub walking : Walking m t passes (replicate 32 (length t.nodes / stride)) at
  pub coming : pending t passes (replicate 32 (length t.nodes / stride)) at ≡ reached (all_visits t passes)

abbrev pub place : ℕ → ℕ → Place
place n height = record { node = n; height = height }

abbrev pub raised : ℕ → Bool → ℕ
raised count one = cond one (count + 1) count

-- past all that is below a place
abbrev pub popped : List ℕ → Place → Place
popped s at = place (get_or s (at.height - 1) 0) (at.height - 1)

-- past an inner node, whose children's boxes passed or not
abbrev pub advanced : List ℕ → Place → ℕ → ℕ → Bool → Bool → Place
advanced s at left right enters follows = cond enters (place left (raised at.height follows)) (cond follows (place right at.height) (popped s at))

abbrev pub pushed : List ℕ → Place → ℕ → Bool → List ℕ
pushed s at right enters = cond enters (set s at.height right) s
