-- `count_items` meets its contract. The invariant: the places hold how often each number stands among the items so far.
use Rattle.std.proofs.Common.{◌≡◌, ℕ, ◌<◌, length, get_or, take}
use Rattle.keys.specs.Sorting.{count}
use Rattle.tree.proofs.items.count_items.Given as goal

abbrev pub invariant-loop-item : goal.invariant-loop-item
invariant-loop-item l = (k : ℕ) → k < length l.counts → get_or l.counts k 0 ≡ count k (take l.item-index l.items)
