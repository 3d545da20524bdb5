-- `CornerPoints::own_box` meets its contract: the definition finds the same lowest and highest numbers, axis by axis.
use Rattle.math.specs.laws.CornerLaws.{box_by_axes, x_numbers, y_numbers, z_numbers}
use Rattle.math.proofs.CornerPoints.own_box.Goals as goal

pub lowest-requires : goal.lowest-requires
lowest-requires c = x_numbers c.requires

pub lowest-requires-2 : goal.lowest-requires-2
lowest-requires-2 c = y_numbers c.requires

pub lowest-requires-3 : goal.lowest-requires-3
lowest-requires-3 c = z_numbers c.requires

pub highest-requires : goal.highest-requires
highest-requires c = x_numbers c.requires

pub highest-requires-2 : goal.highest-requires-2
highest-requires-2 c = y_numbers c.requires

pub highest-requires-3 : goal.highest-requires-3
highest-requires-3 c = z_numbers c.requires

pub returns : goal.returns
returns c =
    rw (
      c.new-2.ensures,
      c.new.ensures,
      c.highest-3.ensures,
      c.highest-2.ensures,
      c.highest.ensures,
      c.lowest-3.ensures,
      c.lowest-2.ensures,
      c.lowest.ensures,
      box_by_axes c.args.self,
    )
