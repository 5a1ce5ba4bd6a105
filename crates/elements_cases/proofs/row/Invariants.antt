-- `row` ends, since a row goes on behind each of its elements.
use Rattle.std.proofs.Common.{◌-◌, length}
use Rattle.elements_cases.proofs.row.Given as goal

abbrev pub invariant-loop-next : goal.invariant-loop-next
invariant-loop-next g l = Unit {0}

abbrev pub decreases-loop-next : goal.decreases-loop-next
decreases-loop-next g l = length l.text - l.i
