-- The boxes of a mesh and what is computed of them once for a list of points (document 01, Mesh rule; csx's polyhedron.rs). Definitions only.
use Rattle.std.specs.Prelude.{ℕ, ◌*◌, List, Float}
use Rattle.float.specs.Arithmetic.{◌⊗◌}
use Rattle.float.specs.Rules.{max}
use Rattle.math.specs.declared.Vec3.{Vec3}
use Rattle.math.specs.declared.BoundingBox.{BoundingBox}
use Rattle.math.specs.declared.CornerPoints.{CornerPoints}
use Rattle.math.specs.Vectors.{at, points, norm}
use Rattle.math.specs.BoundingBoxes.{empty, include, from_points, expanded, size, center}
use Rattle.geom.specs.Tolerance.{rel_tol, tol_of}
use Rattle.mesh.specs.declared.Triangle.{Triangle}
use Rattle.mesh.specs.declared.boxes.Bounds.{Bounds}

-- vertex v of a coordinate list
unfoldable pub vertex : List Float → ℕ → Vec3
vertex coords v = at coords (3 * v)

-- the corners of a triangle
abbrev pub corner_points : List Float → Triangle → CornerPoints
corner_points coords t = record { a = vertex coords t.a; b = vertex coords t.b; c = vertex coords t.c }

-- a triangle's own box: that of its three corners in their order, from the empty box
unfoldable pub triangle_box : List Float → Triangle → BoundingBox
triangle_box coords t = include (include (include empty (vertex coords t.a)) (vertex coords t.b)) (vertex coords t.c)

-- a triangle's centre: the centre of its own box
unfoldable pub triangle_center : List Float → Triangle → Vec3
triangle_center coords t = center (triangle_box coords t)

-- the mesh's box: that of all vertices, used or not
unfoldable pub mesh_box : List Float → BoundingBox
mesh_box coords = from_points (points coords)

-- the tolerance of the surface test of a mesh with this box
unfoldable pub surface_eps : BoundingBox → Float
surface_eps b = tol_of (max (max (norm (size b)) (norm b.max)) (norm b.min))

-- the box larger on every side by 1e-12 times the norm of its size
unfoldable pub grown : BoundingBox → BoundingBox
grown b = expanded b (rel_tol ⊗ norm (size b))

-- what is computed of a mesh once for a list of points
unfoldable pub prepare : List Float → Bounds
prepare coords = let b = mesh_box coords in record { grown = grown b; eps = surface_eps b }
