-- `tape::sum_up` meets its contract. Invariant: the totals so far and those of the rest are the whole list's.
use Rattle.std.proofs.Common.{◌≤◌, ◌*◌, ◌-◌, ◌≡◌, length}
use Rattle.tape.specs.Tape.{max_elements, max_block}
use Rattle.tape.specs.ReadingSteps.{cells}
use Rattle.tape.specs.WalkSteps.{totals_from}
use Rattle.tape.proofs.Counting.{left}
use Rattle.tape.proofs.sum_up.Given as goal

abbrev pub invariant-loop-at : goal.invariant-loop-at
invariant-loop-at l =
    (l.elements ≤ l.at) × (l.at ≤ length l.list) × (l.elements ≤ max_elements) × (l.bytes ≤ l.elements * max_block)
    × (totals_from 0 0 (cells l.list) ≡ totals_from l.elements l.bytes (left l.list l.elements l.at))

abbrev pub decreases-loop-at : goal.decreases-loop-at
decreases-loop-at l = length l.list - l.at
