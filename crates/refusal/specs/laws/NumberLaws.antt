-- The numbers of refusals: there are twelve, and a returned number is read back.
use Rattle.std.specs.Prelude.{◌≡◌, ◌/◌, ◌%◌, ◌≤◌, ◌<◌}
use Rattle.std.proofs.Common.{arith, lit≤}
use Rattle.refusal.specs.declared.Refusal.{Refusal}
use Rattle.refusal.specs.declared.Refusal.TheVariants.{Coordinates, Faces, ShortFace, CornerOut, NotFinite, Room, Tree, PointList, Point, ShapeNumber, Entries, Line}
use Rattle.refusal.specs.Numbers.{number, place, code}

-- every refusal's number is one of document 01's twelve
pub number_between : (r : Refusal) → (1 ≤ number r) × (number r ≤ 12)
number_between Coordinates = (lit≤ tt, lit≤ tt)
number_between Faces = (lit≤ tt, lit≤ tt)
number_between (ShortFace face) = (lit≤ tt, lit≤ tt)
number_between (CornerOut face) = (lit≤ tt, lit≤ tt)
number_between (NotFinite vertex) = (lit≤ tt, lit≤ tt)
number_between Room = (lit≤ tt, lit≤ tt)
number_between Tree = (lit≤ tt, lit≤ tt)
number_between PointList = (lit≤ tt, lit≤ tt)
number_between (Point point) = (lit≤ tt, lit≤ tt)
number_between ShapeNumber = (lit≤ tt, lit≤ tt)
number_between Entries = (lit≤ tt, lit≤ tt)
number_between (Line line) = (lit≤ tt, lit≤ tt)

-- a returned number is read back as long as the place is below a million
pub code_number : (r : Refusal) → place r < 1000000 → code r / 1000000 ≡ number r
code_number r h = omega arith

pub code_place : (r : Refusal) → place r < 1000000 → code r % 1000000 ≡ place r
code_place r h = omega arith
