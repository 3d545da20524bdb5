-- The depth falls with each call.
use Rattle.tree_check.proofs.Fitting.+walk.Given as goal

abbrev pub decreases-walk : goal.decreases-walk
decreases-walk l = l.depth
