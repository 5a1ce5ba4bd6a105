-- `put_lengths` meets its contract. Invariant: the table holds the lengths of the elements passed, and those left go on from here.
use Rattle.tape.specs.CellSteps.{cells_rest}
use Rattle.constructs.proofs.Lengths.{LengthsAt}
use Rattle.constructs.proofs.reach.put_lengths.Given as goal

abbrev pub invariant-loop-at : goal.invariant-loop-at
invariant-loop-at l = LengthsAt l.list l.store l.initial.table l.table (cells_rest l.at-iterator.iter) l.at-iterator.count l.labels l.even
