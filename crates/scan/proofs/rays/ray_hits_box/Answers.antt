-- `ray_hits_box` meets its contract: its test is `slab_hits`, which is csx's for a box that is not empty.
use Rattle.scan.specs.steps.Slabs.{slab_hits}
use Rattle.scan.specs.laws.SlabLaws.{all_numbers, slab_same}
use Rattle.scan.proofs.rays.ray_hits_box.Goals as goal

pub overlap-requires : goal.overlap-requires
overlap-requires c =
    let n = all_numbers c.requires in
    rw (c.entry.ensures, c.entry-2.ensures, c.minus_exit.ensures, c.minus_exit-2.ensures) (n.0.0, n.1.0, n.0.1, n.1.1)

pub returns : goal.returns
unfolding slab_hits
returns c =
    rw
    (c.overlap.ensures, c.minus_exit-3.ensures, c.minus_exit-2.ensures, c.minus_exit.ensures, c.entry-3.ensures, c.entry-2.ensures, c.entry.ensures)
    (slab_same c.requires)
