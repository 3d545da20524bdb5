-- Document 01's plain scan: the mesh rule without a tree. Its parts have names of their own. Definitions only.
use Rattle.std.specs.Prelude.{Option, Some, None, ℕ, ◌+◌, ◌%◌, Bool, true, false, not, cond, ◌&&◌, ◌||◌, List, [], ◌∷◌, eqb, ltb, Float, length}
use Rattle.std.specs.Float.{binary64}
use Rattle.std.specs.Float.Ieee.{of_bits, le}
use Rattle.float.specs.Arithmetic.{◌⊘◌, one}
use Rattle.math.specs.declared.Vec3.{Vec3}
use Rattle.math.specs.declared.BoundingBox.{BoundingBox}
use Rattle.math.specs.Vectors.{vec, sub, norm}
use Rattle.math.specs.BoundingBoxes.{contains, expanded}
use Rattle.mesh.specs.declared.Triangle.{Triangle}
use Rattle.mesh_questions.specs.Faces.{faces}
use Rattle.mesh.specs.MeshBoxes.{vertex, mesh_box, surface_eps, grown}
use Rattle.mesh.specs.Mesh.{Mesh, triangle_at, own_box, all_triangles}
use Rattle.edges.specs.Edges.{closed}
use Rattle.scan.specs.Closest.{closest_on_triangle}
use Rattle.scan.specs.declared.rays.RayHit.{RayHit}
use Rattle.scan.specs.declared.rays.RayHit.TheVariants.{Miss, Hit, Degenerate}
use Rattle.scan.specs.Rays.{ray_hits_box, ray_triangle}
use Rattle.scan.specs.declared.votes.Parity.{Parity}
use Rattle.scan.specs.declared.votes.Parity.TheVariants.{Odd, Even}
use Rattle.scan.specs.declared.votes.Votes.{Votes}

-- the three answers
abbrev pub outside : ℕ
outside = 0

abbrev pub inside : ℕ
inside = 1

abbrev pub undecided : ℕ
undecided = 2

-- the numbers of a list for which a test holds, in their order
unfoldable pub which : (ℕ → Bool) → List ℕ → List ℕ
which test [] = []
which test (t ∷ rest) = cond (test t) (t ∷ which test rest) (which test rest)

-- whether a test holds for a number of the list
unfoldable pub some : (ℕ → Bool) → List ℕ → Bool
some test list = ltb 0 (length (which test list))

-- ---- the surface

-- the surface walk's box test, for nodes and own boxes alike: the box, larger by eps on every side, contains the point
unfoldable pub surface_passes : Float → Vec3 → BoundingBox → Bool
surface_passes eps p b = contains (expanded b eps) p

-- whether the point is within eps of a triangle
unfoldable pub within : List Float → Float → Vec3 → Triangle → Bool
within coords eps p t =
    le (norm (sub (closest_on_triangle p (vertex coords t.a) (vertex coords t.b) (vertex coords t.c)) p)) eps

-- whether triangle t touches the point: its own box passes, and the point is within eps of it
unfoldable pub touches : Mesh → Float → Vec3 → ℕ → Bool
touches m eps p t = surface_passes eps p (own_box m t) && within m.coords eps p (triangle_at m t)

-- ---- the rays

-- one over a direction, axis by axis
unfoldable pub inverse : Vec3 → Vec3
inverse d = vec (one ⊘ d.x) (one ⊘ d.y) (one ⊘ d.z)

-- the ray walk's box test, for nodes and own boxes alike
unfoldable pub ray_passes : Vec3 → Vec3 → BoundingBox → Bool
ray_passes p d b = ray_hits_box p (inverse d) b

-- the ray from p in direction d and a triangle
unfoldable pub crossing : List Float → Vec3 → Vec3 → Triangle → RayHit
crossing coords p d t = ray_triangle p d (vertex coords t.a) (vertex coords t.b) (vertex coords t.c)

-- what the ray from p in direction d finds at triangle t: Miss unless its own box passes
unfoldable pub found : Mesh → Vec3 → Vec3 → ℕ → RayHit
found m p d t = cond (ray_passes p d (own_box m t)) (crossing m.coords p d (triangle_at m t)) Miss

unfoldable pub is_hit : RayHit → Bool
is_hit Miss = false
is_hit Hit = true
is_hit Degenerate = false

unfoldable pub is_degenerate : RayHit → Bool
is_degenerate Miss = false
is_degenerate Hit = false
is_degenerate Degenerate = true

-- ---- the votes

-- the vote of a direction: odd, even, or none
abbrev pub Vote : Type 0
Vote = Option Parity

-- the vote of what was found at triangles: none with any Degenerate, else the number of Hits, odd or even
unfoldable pub vote_over : (ℕ → RayHit) → List ℕ → Vote
vote_over find list =
    cond
    (some (λ t. is_degenerate (find t)) list)
    None
    (cond (eqb (length (which (λ t. is_hit (find t)) list) % 2) 1) (Some Odd) (Some Even))

-- the vote of a direction
unfoldable pub vote : Mesh → Vec3 → Vec3 → Vote
vote m p d = vote_over (found m p d) (all_triangles m)

-- the votes with one more
unfoldable pub counted : Votes → Vote → Votes
counted v None = v
counted v (Some Odd) = record { odd = v.odd + 1; even = v.even }
counted v (Some Even) = record { odd = v.odd; even = v.even + 1 }

-- two votes are odd or two even
unfoldable pub ended : Votes → Bool
ended v = eqb v.odd 2 || eqb v.even 2

-- the votes of directions in their order, behind those that are counted, until two are odd or two even
unfoldable pub votes_from : (Vec3 → Vote) → Votes → List Vec3 → Votes
votes_from cast v [] = v
votes_from cast v (d ∷ rest) = cond (ended v) v (votes_from cast (counted v (cast d)) rest)

-- csx's RAY_DIRS: (0.5772156649015329, 0.6180339887498948, 0.5334026692200182), (−0.7345132201647214, 0.2718281828459045, 0.6214986632135587),
-- (0.1980622641951621, −0.881373587019543, 0.4294494086704378)
unfoldable pub directions : List Vec3
directions =
    vec (of_bits binary64 0x3FE2788CFC6FB619) (of_bits binary64 0x3FE3C6EF372FE94F) (of_bits binary64 0x3FE111A2797CC54C)
    ∷ vec (of_bits binary64 0xBFE78121DE62C9BD) (of_bits binary64 0x3FD165A208DD12BA) (of_bits binary64 0x3FE3E3512A205189)
    ∷ vec (of_bits binary64 0x3FC95A1AB1A51C86) (of_bits binary64 0xBFEC34366179D427) (of_bits binary64 0x3FDB7C195F61AB1E)
    ∷ []

-- the votes on a point, from none
unfoldable pub votes : Mesh → Vec3 → Votes
votes m p = votes_from (vote m p) (record { odd = 0; even = 0 }) directions

-- more odd votes are inside, more even outside, equal undecided
unfoldable pub majority : Votes → ℕ
majority v = cond (ltb v.even v.odd) inside (cond (ltb v.odd v.even) outside undecided)

-- ---- the scan

-- which step of the mesh rule speaks
pub data Rule : Type 0 where
  -- the point is outside the grown box
  outside_box : Rule
  -- a triangle touches the point
  on_surface : Rule
  -- the mesh is not closed
  open_mesh : Rule
  -- the directions vote
  by_votes : Votes → Rule

-- the step that speaks of a point, seen by every triangle
unfoldable pub scan_rule : Mesh → Vec3 → Rule
scan_rule m p =
    let box = mesh_box m.coords in
    cond
    (not (contains (grown box) p))
    outside_box
    (cond
    (some (touches m (surface_eps box) p) (all_triangles m))
    on_surface
    (cond (not (closed (faces m.corners m.ends))) open_mesh (by_votes (votes m p))))

-- what that step answers
unfoldable pub rule_answer : Rule → ℕ
rule_answer outside_box = outside
rule_answer on_surface = inside
rule_answer open_mesh = outside
rule_answer (by_votes v) = majority v

-- the answer to a point
unfoldable pub plain_scan : Mesh → Vec3 → ℕ
plain_scan m p = rule_answer (scan_rule m p)
