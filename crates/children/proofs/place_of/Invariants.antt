-- `children::place_of` meets its contract. Invariant: the rules of what is passed are not for the name.
use Rattle.std.proofs.Common.{◌+◌, ◌≤◌, length}
use Rattle.children.specs.RowSteps.{rules}
use Rattle.children.proofs.Tables.{Searched}
use Rattle.children.proofs.place_of.Given as goal

abbrev pub invariant-loop-end : goal.invariant-loop-end
invariant-loop-end l = (l.number + length l.rest ≤ length l.table) × Searched (rules l.table) l.name l.number (rules l.rest)

abbrev pub decreases-loop-end : goal.decreases-loop-end
decreases-loop-end l = length l.rest
