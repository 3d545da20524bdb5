-- Column text (document 01): which bytes are a good line of which kind, the first bad line by its number, and what an accepted text says. Definitions only.
use Rattle.std.specs.Prelude.{ℕ, zero, suc, ◌+◌, ◌*◌, ◌/◌, Bool, false, not, cond, ◌&&◌, Option, Some, None, Result, Ok, Err, List, [], ◌∷◌, eqb, leb, ltb, length, get_or, take, drop}
use Rattle.text.specs.declared.fields.Number.{Number}
use Rattle.text.specs.declared.Kind.{Kind}
use Rattle.text.specs.declared.Kind.TheVariants as Kinds
use Rattle.text.specs.declared.Counts.{Counts}
use Rattle.text.specs.Fields.{line_feed, field_of}

-- ---- a line

-- number k of a line, from 0: each has width 11, behind a kind of width 2
unfoldable pub number_at : ℕ → List ℕ → Option Number
number_at k line = field_of (take 11 (drop (2 + 11 * k) line))

-- whether a count of nanometres is within ±9,999,999,999
unfoldable pub is_count : Option Number → Bool
is_count None = false
is_count (Some number) = leb number.magnitude 9999999999

-- whether a corner is within 0 to 511
unfoldable pub is_corner : Option Number → Bool
is_corner None = false
is_corner (Some number) = not number.negative && leb number.magnitude 511

-- whether a number is one that lines of this kind have
unfoldable pub is_of : Kind → Option Number → Bool
is_of Kinds.Vertex number = is_count number
is_of Kinds.Triangle number = is_corner number
is_of Kinds.Point number = is_count number

-- whether each of a line's three numbers passes a test
unfoldable pub all_three : (Option Number → Bool) → List ℕ → Bool
all_three test line = test (number_at 0 line) && test (number_at 1 line) && test (number_at 2 line)

-- whether the numbers of a line are those of this kind
unfoldable pub numbers_fit : Kind → List ℕ → Bool
numbers_fit kind line = all_three (is_of kind) line

-- the kind that a number names: 1 vertex, 2 triangle, 3 point
unfoldable pub kind_named : Option Number → Option Kind
kind_named None = None
kind_named (Some number) =
    cond number.negative None (cond (eqb number.magnitude 1) (Some Kinds.Vertex) (cond (eqb number.magnitude 2) (Some Kinds.Triangle) (cond (eqb number.magnitude 3) (Some Kinds.Point) None)))

-- a line of a kind is of that kind if its numbers are
unfoldable pub of_kind : Option Kind → List ℕ → Option Kind
of_kind None line = None
of_kind (Some kind) line = cond (numbers_fit kind line) (Some kind) None

-- the kind of a line, none if it is bad: 36 bytes, the last a line feed
unfoldable pub kind_of : List ℕ → Option Kind
kind_of line = cond (eqb (length line) 36 && eqb (get_or line 35 0) line_feed) (of_kind (kind_named (field_of (take 2 line))) line) None

-- ---- a text

-- so many lines of a text
unfoldable pub lines_of : ℕ → List ℕ → List (List ℕ)
lines_of zero text = []
lines_of (suc n) text = take 36 text ∷ lines_of n (drop 36 text)

-- the lines of a text; what is left at its end, if anything is, is a line too
unfoldable pub lines : List ℕ → List (List ℕ)
lines text = lines_of ((length text + 35) / 36) text

-- no lines
unfoldable pub none : Counts
none = record { vertices = 0; triangles = 0; points = 0 }

-- how many lines were counted
unfoldable pub lines_in : Counts → ℕ
lines_in counts = counts.vertices + counts.triangles + counts.points

-- whether the kinds keep their order and a kind its limit if a line of this kind follows
unfoldable pub fits : Counts → Option Kind → Bool
fits counts None = false
fits counts (Some Kinds.Vertex) = ltb counts.vertices 512 && eqb (counts.triangles + counts.points) 0
fits counts (Some Kinds.Triangle) = ltb counts.triangles 512 && eqb counts.points 0
fits counts (Some Kinds.Point) = ltb counts.points 512

-- whether a line of this kind may follow those that were counted: at most 1,024 lines
unfoldable pub may_follow : Counts → Option Kind → Bool
may_follow counts kind = ltb (lines_in counts) 1024 && fits counts kind

-- one more line of this kind
unfoldable pub counted : Counts → Option Kind → Counts
counted counts None = counts
counted counts (Some Kinds.Vertex) = record { vertices = counts.vertices + 1; triangles = counts.triangles; points = counts.points }
counted counts (Some Kinds.Triangle) = record { vertices = counts.vertices; triangles = counts.triangles + 1; points = counts.points }
counted counts (Some Kinds.Point) = record { vertices = counts.vertices; triangles = counts.triangles; points = counts.points + 1 }

-- the first bad line by its number, the lines counted from `first`, or how many there are of each kind
unfoldable pub judge : ℕ → Counts → List (List ℕ) → Result Counts ℕ
judge first counts [] = Ok counts
judge first counts (line ∷ rest) =
    cond (may_follow counts (kind_of line)) (judge first (counted counts (kind_of line)) rest) (Err (first + lines_in counts))
