-- The mesh that triangles are welded into (document 01, `from_triangles`; csx's polyhedron.rs). Definitions only.
use Rattle.std.specs.Prelude.{ℕ, ◌+◌, Bool, cond, ◌&&◌, ◌||◌, List, [], ◌∷◌, ◌++◌, eqb, Float, length}
use Rattle.std.specs.Float.Ieee.{eq}
use Rattle.math.specs.declared.Vec3.{Vec3}
use Rattle.math.specs.Vectors.{points}
use Rattle.mesh.specs.declared.Triangle.{Triangle}
use Rattle.mesh.specs.Triangles.{triangle}

-- whether two corners are one vertex: their coordinates are equal as numbers
unfoldable pub same : Vec3 → Vec3 → Bool
same p q = eq p.x q.x && eq p.y q.y && eq p.z q.z

-- the number of the first vertex that is the same as p, or the vertices' count if none is
unfoldable pub find : List Vec3 → Vec3 → ℕ
find [] p = 0
find (v ∷ rest) p = cond (same v p) 0 (find rest p + 1)

-- the vertices with p among them: at the end unless one is the same
unfoldable pub add : List Vec3 → Vec3 → List Vec3
add vertices p = cond (eqb (find vertices p) (length vertices)) (vertices ++ (p ∷ [])) vertices

-- the vertices with each point added in order
unfoldable pub add_all : List Vec3 → List Vec3 → List Vec3
add_all vertices [] = vertices
add_all vertices (p ∷ rest) = add_all (add vertices p) rest

-- whether two of a triangle's corners are one vertex
unfoldable pub degenerate : Triangle → Bool
degenerate t = eqb t.a t.b || eqb t.b t.c || eqb t.a t.c

-- the triangle, unless it is degenerate
unfoldable pub kept : Triangle → List Triangle
kept t = cond (degenerate t) [] (t ∷ [])

-- the kept triangles of points three by three, each corner by its vertex's number
unfoldable pub faces_among : List Vec3 → List Vec3 → List Triangle
faces_among vertices [] = []
faces_among vertices (a ∷ []) = []
faces_among vertices (a ∷ b ∷ []) = []
faces_among vertices (a ∷ b ∷ c ∷ rest) =
    kept (triangle (find vertices a) (find vertices b) (find vertices c)) ++ faces_among vertices rest

-- the numbers of vertices, three each
unfoldable pub numbers : List Vec3 → List Float
numbers [] = []
numbers (v ∷ rest) = v.x ∷ v.y ∷ v.z ∷ numbers rest

-- the corners of faces, three each
unfoldable pub corners_of : List Triangle → List ℕ
corners_of [] = []
corners_of (t ∷ rest) = t.a ∷ t.b ∷ t.c ∷ corners_of rest

-- where each face ends, from the corner count `start` on
unfoldable pub ends_from : ℕ → List Triangle → List ℕ
ends_from start [] = []
ends_from start (t ∷ rest) = (start + 3) ∷ ends_from (start + 3) rest

-- the vertices of the welded mesh, in order of first appearance, as first seen
unfoldable pub vertices : List Float → List Vec3
vertices triangles = add_all [] (points triangles)

-- the faces of the welded mesh
unfoldable pub faces : List Float → List Triangle
faces triangles = faces_among (vertices triangles) (points triangles)

-- its coordinate list
unfoldable pub coords : List Float → List Float
coords triangles = numbers (vertices triangles)

-- its corners
unfoldable pub corners : List Float → List ℕ
corners triangles = corners_of (faces triangles)

-- its face ends: 3, 6, 9, ..
unfoldable pub ends : List Float → List ℕ
ends triangles = ends_from 0 (faces triangles)
