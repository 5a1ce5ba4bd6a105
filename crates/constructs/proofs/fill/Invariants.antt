-- `constructs::fill` meets its contract. Invariant: the walk matches the scan of the elements passed.
use Rattle.tape.specs.CellSteps.{cells_rest}
use Rattle.constructs.proofs.Filling.{Matched}
use Rattle.constructs.proofs.fill.Given as goal

abbrev pub invariant-loop-at : goal.invariant-loop-at
invariant-loop-at l = Matched l.size l.list l.store l.initial.table l.table (cells_rest l.at-iterator.iter) l.at-iterator.count l.off l.n l.phase
