-- The vote of a direction, triangle after triangle. Definitions only.
use Rattle.std.specs.Prelude.{Some, None, ℕ}
use mathlib.Core.List.{List, [], ◌∷◌}
use Rattle.scan.specs.declared.rays.RayHit.{RayHit}
use Rattle.scan.specs.declared.rays.RayHit.TheVariants.{Miss, Hit, Degenerate}
use Rattle.scan.specs.declared.votes.Parity.TheVariants.{Odd, Even}
use Rattle.scan.specs.Scan.{Vote}

-- the vote so far, with what is found at one more triangle: a Hit turns odd and even round, a Degenerate ends the vote
unfoldable pub with_found : Vote → RayHit → Vote
with_found vote Miss = vote
with_found None Hit = None
with_found (Some Odd) Hit = (Some Even)
with_found (Some Even) Hit = (Some Odd)
with_found vote Degenerate = None

-- the vote so far, with what is found at triangles one after another
unfoldable pub cast_over : (ℕ → RayHit) → Vote → List ℕ → Vote
cast_over find v [] = v
cast_over find v (t ∷ rest) = cast_over find (with_found v (find t)) rest
