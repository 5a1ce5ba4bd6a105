-- `put_tree` ends, since each tag stands behind the one before it.
use Rattle.std.proofs.Common.{◌-◌, length}
use Rattle.trees.proofs.put_tree.Given as goal

abbrev pub invariant-loop-n : goal.invariant-loop-n
invariant-loop-n g l = Unit {0}

abbrev pub decreases-loop-n : goal.decreases-loop-n
decreases-loop-n g l = length l.text - l.i
