-- The triangles of a mesh (document 01, Mesh rule): the fan of each face from its first corner. Definitions only.
use Rattle.std.specs.Prelude.{ℕ, List, [], ◌∷◌, ◌++◌}
use Rattle.mesh.specs.declared.Triangle.{Triangle}
use Rattle.mesh_questions.specs.Faces.{faces}

-- the triangle of three vertex numbers
abbrev pub triangle : ℕ → ℕ → ℕ → Triangle
triangle a b c = record { a = a; b = b; c = c }

-- the triangles from corner a over each two corners that follow one another
unfoldable pub fan_from : ℕ → List ℕ → List Triangle
fan_from a [] = []
fan_from a (b ∷ []) = []
fan_from a (b ∷ c ∷ rest) = triangle a b c ∷ fan_from a (c ∷ rest)

-- the fan of a face from its first corner
unfoldable pub fan : List ℕ → List Triangle
fan [] = []
fan (a ∷ rest) = fan_from a rest

-- the fans of all faces, face after face
unfoldable pub fans : List (List ℕ) → List Triangle
fans [] = []
fans (face ∷ rest) = fan face ++ fans rest

-- the triangles of a mesh
unfoldable pub triangles : List ℕ → List ℕ → List Triangle
triangles corners ends = fans (faces corners ends)
