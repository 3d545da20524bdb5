-- Document 01's number and place of each refusal ('Answers, and the questions asked first'), and the number that a C function returns ('The desks' viewer ..').
use Rattle.std.specs.Prelude.{ℕ, ◌+◌, ◌*◌}
use Rattle.refusal.specs.declared.Refusal.{Refusal}
use Rattle.refusal.specs.declared.Refusal.TheVariants.{Coordinates, Faces, ShortFace, CornerOut, NotFinite, Room, Tree, PointList, Point, ShapeNumber, Entries, Line}

-- the number of the question
abbrev pub number : Refusal → ℕ
number Coordinates = 1
number Faces = 2
number (ShortFace face) = 3
number (CornerOut face) = 4
number (NotFinite vertex) = 5
number Room = 6
number Tree = 7
number PointList = 8
number (Point point) = 9
number ShapeNumber = 10
number Entries = 11
number (Line line) = 12

-- the place, 0 unless the question names one
abbrev pub place : Refusal → ℕ
place Coordinates = 0
place Faces = 0
place (ShortFace face) = face
place (CornerOut face) = face
place (NotFinite vertex) = vertex
place Room = 0
place Tree = 0
place PointList = 0
place (Point point) = point
place ShapeNumber = 0
place Entries = 0
place (Line line) = line

-- the number × 1,000,000 plus the place
abbrev pub code : Refusal → ℕ
code r = number r * 1000000 + place r
