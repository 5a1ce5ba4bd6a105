-- `EachRow::len` meets its contract. Invariant: those counted and those of the rest of the row are all.
use mathlib.Core.Path.{◌≡◌}
use Prim.Native.Nat.{◌+◌, ◌-◌, ◌≤◌}
use lib.ListN.{length}
use Rattle.elements.specs.Reading.{forest_at}
use Rattle.index_values.specs.Tests.{rows_in}
use Rattle.index_files.specs.EachRow.{rows_left}
use Rattle.index_files.proofs.extent_rows.EachRow.len.Given as goal

abbrev pub invariant-loop-child : goal.invariant-loop-child
invariant-loop-child l = (l.n ≤ l.at) × (l.n + length (rows_in (forest_at l.self.text.now l.at)) ≡ length (rows_left l.self))

abbrev pub decreases-loop-child : goal.decreases-loop-child
decreases-loop-child l = length l.self.text.now - l.at
