-- `overlap` meets its contract: a maximum of numbers is a number, so each left side is one.
use lib.Ieee.{of_bits, is_nan}
use Rattle.float.specs.Arithmetic.{zero}
use Rattle.float.specs.laws.Order.{Number, max_number}
use Rattle.scan.specs.steps.Slabs.{overlap}
use Rattle.scan.proofs.rays.overlap.Goals as goal

number_zero : Number zero
number_zero = unfold of_bits is_nan in tt

pub higher-requires-2 : goal.higher-requires-2
higher-requires-2 c = rw c.higher.ensures (max_number zero _ number_zero c.requires.0)

pub higher-last_entry-requires : goal.higher-last_entry-requires
higher-last_entry-requires c = rw (c.higher-2.ensures, c.higher.ensures) (max_number _ _ (max_number zero _ number_zero c.requires.0) c.requires.1)

pub higher-requires-4 : goal.higher-requires-4
higher-requires-4 c = rw c.higher-3.ensures (max_number _ _ c.requires.2 c.requires.3)

pub returns : goal.returns
unfolding overlap
returns c = rw (c.higher-4.ensures, c.higher-3.ensures, c.higher-last_entry.ensures, c.higher-2.ensures, c.higher.ensures)
