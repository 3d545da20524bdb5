-- There are three axes.
use Rattle.std.specs.Prelude.{◌<◌}
use Rattle.std.proofs.Common.{arith}
use Rattle.mesh.specs.declared.Axis.{Axis}
use Rattle.mesh.specs.declared.Axis.TheVariants.{X, Y, Z}
use Rattle.mesh.specs.steps.Axes.{place}

-- there are three
pub place_lt : (axis : Axis) → place axis < 3
place_lt X = omega arith
place_lt Y = omega arith
place_lt Z = omega arith
