-- The elements that an iterator over a list has left.
use Rattle.std.specs.Prelude.{List}
use Rattle.tape.specs.declared.Cell.{Cell}
use Rattle.tape.specs.declared.Cells.{Cells}
use Rattle.tape.specs.WalkSteps.{cells_left}

abbrev pub cells_rest : Cells → List Cell
cells_rest s = cells_left s.list.now s.at
