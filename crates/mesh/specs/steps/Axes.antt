-- The axes by number. Definition only.
use Rattle.std.specs.Prelude.{ℕ}
use Rattle.mesh.specs.declared.Axis.{Axis}
use Rattle.mesh.specs.declared.Axis.TheVariants.{X, Y, Z}

-- the place of an axis among the three numbers of a point
abbrev pub place : Axis → ℕ
place X = 0
place Y = 1
place Z = 2
