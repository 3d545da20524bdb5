-- `center_on` meets its contract: a triangle's centre on one axis depends on that axis alone.
use Rattle.mesh.specs.steps.Axes.{place}
use Rattle.mesh.specs.laws.AxisLaws.{place_lt}
use Rattle.mesh.specs.laws.Centers.{first_two, center_on_lem}
use Rattle.mesh.proofs.boxes.center_on.Goals as goal

pub lowest-requires : goal.lowest-requires
lowest-requires c = rw c.place-k.ensures (first_two _ _ c.args.axis c.requires.1)

pub highest-requires : goal.highest-requires
highest-requires c = rw c.place-k.ensures (first_two _ _ c.args.axis c.requires.1)

pub returns : goal.returns
returns c =
    let a = c.args in
    rw (c.highest.ensures, c.lowest.ensures, c.place-k.ensures, center_on_lem a.coords.now a.t (place a.axis) (place_lt a.axis))
