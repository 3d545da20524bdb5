-- The first vector of a list that is not finite, and the refusal that names it. Definitions only.
use Rattle.std.specs.Prelude.{ℕ, ◌+◌, cond, List, [], ◌∷◌, Option, Some, None, Err}
use Rattle.math.specs.declared.Vec3.{Vec3}
use Rattle.math.specs.Vectors as Vectors
use Rattle.refusal.specs.declared.Refusal.{Refusal}
use Rattle.refusal.specs.Verdicts.{Verdict, Passed}

-- the first vector that is not finite, the vectors counted from `number`
unfoldable pub first_not_finite : ℕ → List Vec3 → Option ℕ
first_not_finite number [] = None
first_not_finite number (v ∷ rest) = cond (Vectors.is_finite v) (first_not_finite (number + 1) rest) (Some number)

-- what is answered if this vector is refused, or none
abbrev pub refused_at : (ℕ → Refusal) → Option ℕ → Verdict
refused_at refusal None = Passed
refused_at refusal (Some number) = Err (refusal number)
