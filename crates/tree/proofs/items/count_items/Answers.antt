use Rattle.std.proofs.Common.{get_or, take, length-take, arith}
use Rattle.std.proofs.lemmas.List.{length-set}
use Rattle.keys.specs.Sorting.{count}
use Rattle.tree.specs.laws.CountingLaws.{count_le, counted_in, counted_out}
use Rattle.tree.proofs.items.count_items.Goals as goal
use Rattle.tree.proofs.items.count_items.Goals.{then-k-counts, else-k-counts}

pub loop-item-init : goal.loop-item-init
unfolding count
loop-item-init c = c.requires

pub overflow_add-counts : goal.overflow_add-counts
overflow_add-counts c =
    let items = c.args.items.now in
    let i = c.loop-item.item-index in
    let k = get_or items i 0 in
    omega (arith, c.loop-item.invariant k c.if-k-counts.true, count_le k (take i items), length-take i items)

pub loop-item-preserved : goal.loop-item-preserved
loop-item-preserved c =
    let items = c.args.items.now in
    let at = c.loop-item in
    elim c.if-k-counts.branch [
      | then-k-counts w ↦
          rw (w.counts-is, length-set) (counted_in items at.counts _ at.item-index c.loop-item-test.true at.invariant w.if-k-counts.true (omega arith))
      | else-k-counts w ↦ rw w.counts-is (counted_out items at.counts _ at.item-index c.loop-item-test.true at.invariant w.if-k-counts.false)
    ]
