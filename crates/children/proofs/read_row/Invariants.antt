-- `children::read_row` meets its contract. Invariant: the elements before i are passed, each with its place at its rule's number.
use Rattle.std.proofs.Common.{◌≡◌, ◌-◌, ◌≤◌, length}
use Rattle.children.specs.RowSteps.{table_of}
use Rattle.children.proofs.Passed.{Passed}
use Rattle.children.proofs.read_row.Given as goal

abbrev pub invariant-loop-child : goal.invariant-loop-child
invariant-loop-child l = (l.must ≤ 16) × (length l.seats ≡ 16) × Passed l.text (table_of l.table) l.at l.i l.seats

abbrev pub decreases-loop-child : goal.decreases-loop-child
decreases-loop-child l = length l.text - l.i
