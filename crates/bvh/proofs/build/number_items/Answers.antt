use Rattle.std.proofs.Common.{◌≡◌, length, arith}
use lib.Seq.{ext_get_or}
use Rattle.mesh.specs.Mesh.{numbers}
use Rattle.tree.specs.laws.NumberLaws.{length_numbers, get_d_numbers}
use Rattle.bvh.proofs.build.number_items.Goals as goal

pub returns : goal.returns
returns c =
    let l = c.loop-k in
    let n = length c.args.items.now in
    let long : length l.items ≡ length (numbers 0 n) = omega (arith, length_numbers 0 n) in
    ext_get_or 0 l.items (numbers 0 n) long (λ j h. omega (arith, l.invariant j (omega arith), get_d_numbers 0 n j (omega arith)))
