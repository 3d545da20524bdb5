-- Numbers in fields of a fixed width (document 01, Column text): right-justified in decimal, with blanks before them, a minus against the first digit, no leading
-- zeros and no minus zero. How a number is written, and how a field is read. Definitions only.
use Rattle.std.specs.Prelude.{ℕ, zero, suc, ◌+◌, ◌-◌, ◌*◌, ◌/◌, ◌%◌, Bool, true, false, not, cond, ◌&&◌, ◌||◌, Option, Some, None, List, [], ◌∷◌, ◌++◌, eqb, leb, length, get_or, replicate}
use Rattle.text.specs.declared.fields.Number.{Number}

-- the bytes of a blank, a line feed, a minus and the digit 0
abbrev pub blank : ℕ
blank = 32

abbrev pub line_feed : ℕ
line_feed = 10

abbrev pub minus : ℕ
minus = 45

abbrev pub digit0 : ℕ
digit0 = 48

-- ---- writing

-- what stands before the first digit: blanks, and a minus at their end if the number is negative
unfoldable pub before : Bool → ℕ → List ℕ
before negative zero = []
before negative (suc width) = replicate width blank ++ (cond negative minus blank ∷ [])

-- a number at the end of a field of this width, digit by digit from the last one
unfoldable pub field_text : Bool → ℕ → ℕ → List ℕ
field_text negative zero magnitude = []
field_text negative (suc width) magnitude =
    cond (eqb (magnitude / 10) 0) (before negative width) (field_text negative width (magnitude / 10)) ++ ((digit0 + magnitude % 10) ∷ [])

-- ---- reading

-- a number, negative or not
abbrev pub number : Bool → ℕ → Number
number negative magnitude = record { negative = negative; magnitude = magnitude }

-- a field without the blanks before its number
unfoldable pub without_blanks : List ℕ → List ℕ
without_blanks [] = []
without_blanks (b ∷ rest) = cond (eqb b blank) (without_blanks rest) (b ∷ rest)

-- whether every byte is a digit
unfoldable pub all_digits : List ℕ → Bool
all_digits [] = true
all_digits (b ∷ rest) = leb digit0 b && leb b (digit0 + 9) && all_digits rest

-- the number that digits say, behind what is read already
unfoldable pub value_from : ℕ → List ℕ → ℕ
value_from read [] = read
value_from read (b ∷ rest) = value_from (read * 10 + (b - digit0)) rest

-- whether these bytes are a whole number: one digit or more, the first of several not 0
unfoldable pub is_whole : List ℕ → Bool
is_whole bytes = leb 1 (length bytes) && (all_digits bytes && (eqb (length bytes) 1 || not (eqb (get_or bytes 0 0) digit0)))

-- the digits of a number, negative or not; there is no minus zero
unfoldable pub magnitude_of : Bool → List ℕ → Option Number
magnitude_of negative digits =
    cond (is_whole digits && not (negative && eqb (value_from 0 digits) 0)) (Some (number negative (value_from 0 digits))) None

-- a number: a minus if it is negative, then its digits
unfoldable pub number_of : List ℕ → Option Number
number_of [] = None
number_of (b ∷ rest) = cond (eqb b minus) (magnitude_of true rest) (magnitude_of false (b ∷ rest))

-- what a field says: a number, or none if it is bad
unfoldable pub field_of : List ℕ → Option Number
field_of bytes = number_of (without_blanks bytes)
