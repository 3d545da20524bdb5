-- `items_once` meets its contract: the cleared places hold 0, so `count_items` leaves the counts in them, and all of these are 1 exactly when
-- each number stands once (`all_ones_once`).
use Rattle.std.proofs.Common.{◌≡◌, length, eq-eqb, arith, length-take-le}
use Rattle.std.proofs.lemmas.List.{drop_at}
use Rattle.tree.specs.laws.CountingLaws.{all_ones_once}
use Rattle.tree.proofs.items.items_once.Goals as goal

pub returns : goal.returns
returns c =
    let counts = c.count_items.new.counts in
    let long : length counts ≡ c.args.n = omega (arith, length-take-le c.args.n c.args.work.now (omega arith)) in
    record {
      answer = rw (c.all_ones.ensures, eq-eqb _ _ c.if-items-n.false, long) (all_ones_once c.args.n c.args.items.now counts (λ k h. c.count_items.ensures.counts k (omega arith)));
      rest = drop_at counts _ c.args.n long;
    }
