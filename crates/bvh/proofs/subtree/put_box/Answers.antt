-- `put_box` meets its contract: six floats are copied over those of the node.
use Rattle.std.proofs.Common.{◌+◌, ◌-◌, ◌*◌, ◌≡◌, arith}
use Rattle.builder.specs.Builder.{edges}
use Rattle.bvh.specs.laws.SubtreeLaws.{sets_copied}
use Rattle.bvh.proofs.subtree.put_box.Goals as goal

pub returns : goal.returns
returns c =
    let at = 6 * c.args.n in
    let six : at + 6 - at ≡ 6 = omega arith in
    rw (six, c.copy_from_slice.ensures.after, c.from.ensures) (sets_copied c.args.boxes.now at (edges c.args.b) c.requires)
