-- `tags` ends, since each tag stands behind the one before it.
use Rattle.std.proofs.Common.{◌-◌, length}
use Rattle.elements_cases.proofs.tags.Given as goal

abbrev pub invariant-loop-p : goal.invariant-loop-p
invariant-loop-p l = Unit {0}

abbrev pub decreases-loop-p : goal.decreases-loop-p
decreases-loop-p l = length l.text - l.i
