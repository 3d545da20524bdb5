-- The edges of a mesh, their keys and whether it is closed (document 01, Room and Mesh rule). Definitions only.
use Rattle.std.specs.Prelude.{ℕ, ◌+◌, ◌*◌, Bool, cond, ◌&&◌, ◌||◌, List, [], ◌∷◌, ◌++◌, map, eqb, leb, ltb, length}
use Rattle.std.specs.List.{list_all}

-- an edge: the vertex that it leaves and the vertex that it goes to
pub record Edge : Type 0 where
  pub from : ℕ
  pub to : ℕ

abbrev pub edge : ℕ → ℕ → Edge
edge a b = record { from = a; to = b }

-- the edges from each corner to the next, and from the last corner to `first`
unfoldable pub edges_from : ℕ → List ℕ → List Edge
edges_from first [] = []
edges_from first (a ∷ []) = edge a first ∷ []
edges_from first (a ∷ b ∷ rest) = edge a b ∷ edges_from first (b ∷ rest)

-- a face's edges, one a corner
unfoldable pub face_edges : List ℕ → List Edge
face_edges [] = []
face_edges (a ∷ rest) = edges_from a (a ∷ rest)

-- all faces' edges, face after face
unfoldable pub edges : List (List ℕ) → List Edge
edges [] = []
edges (face ∷ rest) = face_edges face ++ edges rest

-- ---- Room

-- the key of an edge between a and b: smaller vertex × 65,536 + larger
unfoldable pub edge_key : ℕ → ℕ → ℕ
edge_key a b = cond (leb a b) (a * 65536 + b) (b * 65536 + a)

abbrev pub key_of : Edge → ℕ
key_of e = edge_key e.from e.to

-- the keys of a face's edges
unfoldable pub face_keys : List ℕ → List ℕ
face_keys face = map key_of (face_edges face)

-- the keys of all faces' edges
unfoldable pub edge_keys : List (List ℕ) → List ℕ
edge_keys faces = map key_of (edges faces)

-- ---- Mesh rule

-- whether two edges are the same unordered: equal in one order or in the other
unfoldable pub same_edge : Edge → Edge → Bool
same_edge e f = (eqb e.from f.from && eqb e.to f.to) || (eqb e.from f.to && eqb e.to f.from)

-- how often an edge is used among edges
unfoldable pub uses : Edge → List Edge → ℕ
uses e [] = 0
uses e (f ∷ rest) = cond (same_edge e f) 1 0 + uses e rest

-- whether each of the edges is used exactly twice among them
unfoldable pub all_twice : List Edge → Bool
all_twice edges = list_all (λ e. eqb (uses e edges) 2) edges

-- a mesh is closed when it has a face and each unordered edge is used exactly twice
unfoldable pub closed : List (List ℕ) → Bool
closed faces = ltb 0 (length faces) && all_twice (edges faces)
