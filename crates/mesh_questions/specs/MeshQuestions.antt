-- Document 01's questions 1 to 5 of a mesh, in their order. Definitions only.
use Rattle.std.specs.Prelude.{ℕ, ◌+◌, ◌/◌, ◌%◌, Bool, true, ◌&&◌, List, [], ◌∷◌, eqb, leb, ltb, Float, length}
use Rattle.math.specs.declared.Vec3.{Vec3}
use Rattle.math.specs.Vectors as Vectors
use Rattle.refusal.specs.declared.Refusal.{Refusal}
use Rattle.refusal.specs.declared.Refusal.TheVariants.{Coordinates, Faces, ShortFace, CornerOut, NotFinite}
use Rattle.refusal.specs.Verdicts.{Passed, Verdict, ask, then}
use Rattle.mesh_questions.specs.Faces.{faces}

-- question 1: is the coordinate list a multiple of 3 long, with at most 65,536 vertices?
unfoldable pub whole_vertices : List Float → Bool
whole_vertices coords = eqb (length coords % 3) 0 && leb (length coords / 3) 65536

-- from `before` on the face ends never fall, and the last is the corner count
unfoldable pub ends_fit : ℕ → ℕ → List ℕ → Bool
ends_fit before corners [] = eqb before corners
ends_fit before corners (end ∷ rest) = leb before end && ends_fit end corners rest

-- question 2: are there at most 65,536 faces and 262,144 corners, and do the face ends never fall, the last being the corner count (no corners when there are no faces)?
unfoldable pub faces_fit : List ℕ → List ℕ → Bool
faces_fit corners ends = leb (length ends) 65536 && leb (length corners) 262144 && ends_fit 0 (length corners) ends

-- questions 1 and 2
unfoldable pub ask_lengths : List Float → List ℕ → List ℕ → Verdict
ask_lengths coords corners ends = then (ask (whole_vertices coords) Coordinates) (ask (faces_fit corners ends) Faces)

-- whether each corner is below the vertex count
unfoldable pub all_below : ℕ → List ℕ → Bool
all_below vertices [] = true
all_below vertices (corner ∷ rest) = ltb corner vertices && all_below vertices rest

-- question 3 of a face: has it three corners or more? And 4: is each corner below the vertex count?
unfoldable pub ask_face : ℕ → ℕ → List ℕ → Verdict
ask_face vertices number face = then (ask (leb 3 (length face)) (ShortFace number)) (ask (all_below vertices face) (CornerOut number))

-- questions 3 and 4 face by face, the faces counted from `number`
unfoldable pub ask_faces : ℕ → ℕ → List (List ℕ) → Verdict
ask_faces vertices number [] = Passed
ask_faces vertices number (face ∷ rest) = then (ask_face vertices number face) (ask_faces vertices (number + 1) rest)

-- is each vector finite? If not, the refusal of the first that is not, the vectors counted from `number`
unfoldable pub ask_finite : (ℕ → Refusal) → ℕ → List Vec3 → Verdict
ask_finite refusal number [] = Passed
ask_finite refusal number (v ∷ rest) = then (ask (Vectors.is_finite v) (refusal number)) (ask_finite refusal (number + 1) rest)

-- question 5: is each coordinate finite? The vertices are counted from `number`
abbrev pub ask_vertices : ℕ → List Vec3 → Verdict
ask_vertices number vertices = ask_finite NotFinite number vertices

-- questions 3 to 5
unfoldable pub ask_parts : List Float → List ℕ → List ℕ → Verdict
ask_parts coords corners ends =
    then (ask_faces (length coords / 3) 0 (faces corners ends)) (ask_vertices 0 (Vectors.points coords))

-- questions 1 to 5
unfoldable pub ask_mesh : List Float → List ℕ → List ℕ → Verdict
ask_mesh coords corners ends = then (ask_lengths coords corners ends) (ask_parts coords corners ends)
