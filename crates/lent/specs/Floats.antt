-- What the type of a lent list of floats says (document 01: 'Floats are f64'): each is an f64 value. Definition only.
use Rattle.std.specs.Prelude.{ℕ, List, T, Float, get_or}
use Rattle.std.specs.Float.{nan, binary64}
use Rattle.std.specs.Float.Ieee.{fits}

-- every float of the list is of the format f64
abbrev pub F64s : List Float → Type 0
F64s list = (i : ℕ) → T (fits binary64 (get_or list i nan))
