-- The two walks over a lent tree (csx's bvh.rs, `visit`): what they come to, in which order. Definitions only.
use Rattle.std.specs.Prelude.{ℕ, zero, suc, ◌+◌, Bool, cond, List, [], ◌∷◌, ◌++◌, map, eqb, Float, get_or}
use Rattle.math.specs.declared.Vec3.{Vec3}
use Rattle.math.specs.declared.BoundingBox.{BoundingBox}
use Rattle.mesh.specs.Mesh.{Mesh}
use Rattle.tree.specs.Tree.{Tree, node_count, box_of, start_of, count_of}
use Rattle.scan.specs.Scan.{Vote, some, surface_passes, touches, ray_passes, found, is_degenerate, vote_over}

-- what a walk comes to: a node, whose box it tests, or a triangle of a leaf
pub data Visit : Type 0 where
  node : ℕ → Visit
  item : ℕ → Visit

-- the items at `places` places from i on
unfoldable pub items_from : List ℕ → ℕ → ℕ → List ℕ
items_from items i zero = []
items_from items i (suc places) = get_or items i 0 ∷ items_from items (i + 1) places

-- the visits from node n down, with at most `depth` nodes on a path: the node, and if its box passes what is below it, the left child before the
-- right one, a leaf's triangles by place
unfoldable pub visits : Tree → (BoundingBox → Bool) → ℕ → ℕ → List Visit
visits t passes zero n = []
visits t passes (suc depth) n =
    node n
    ∷ cond
    (passes (box_of t n))
    (cond
    (eqb (count_of t n) 0)
    (visits t passes depth (n + 1) ++ visits t passes depth (start_of t n))
    (map item (items_from t.items (start_of t n) (count_of t n))))
    []

-- the visits of a walk that nothing ends: from the root, node 0, down
unfoldable pub all_visits : Tree → (BoundingBox → Bool) → List Visit
all_visits t passes = cond (eqb (node_count t) 0) [] (visits t passes 32 0)

-- the visits up to the first triangle that ends the walk
unfoldable pub up_to : (ℕ → Bool) → List Visit → List Visit
up_to ends [] = []
up_to ends (node n ∷ rest) = node n ∷ up_to ends rest
up_to ends (item t ∷ rest) = item t ∷ cond (ends t) [] (up_to ends rest)

-- the triangles among visits
unfoldable pub reached : List Visit → List ℕ
reached [] = []
reached (node n ∷ rest) = reached rest
reached (item t ∷ rest) = t ∷ reached rest

-- the surface walk ends at the first triangle that touches the point
unfoldable pub surface_walk : Mesh → Tree → Float → Vec3 → List Visit
surface_walk m t eps p = up_to (touches m eps p) (all_visits t (surface_passes eps p))

-- the ray walk ends at the first Degenerate triangle
unfoldable pub ray_walk : Mesh → Tree → Vec3 → Vec3 → List Visit
ray_walk m t p d = up_to (λ k. is_degenerate (found m p d k)) (all_visits t (ray_passes p d))

-- whether the surface walk comes to a triangle that touches the point
unfoldable pub walk_touches : Mesh → Tree → Float → Vec3 → Bool
walk_touches m t eps p = some (touches m eps p) (reached (surface_walk m t eps p))

-- the vote of a direction by what the ray walk comes to
unfoldable pub walk_vote : Mesh → Tree → Vec3 → Vec3 → Vote
walk_vote m t p d = vote_over (found m p d) (reached (ray_walk m t p d))
