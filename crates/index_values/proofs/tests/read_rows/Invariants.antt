-- `read_rows` meets its contract. Invariant: the rows read so far and those of the rest of the row are all.
use mathlib.Core.Path.{◌≡◌}
use mathlib.Core.List.{◌++◌}
use Prim.Native.Nat.{◌-◌, ◌*◌, ◌≤◌}
use lib.ListN.{length, take}
use Rattle.elements.specs.Reading.{forest_at}
use Rattle.extents.specs.Rows.{rows_of}
use Rattle.index_values.specs.Tests.{rows_in}
use Rattle.index_values.proofs.tests.read_rows.Given as goal

abbrev pub invariant-loop-h : goal.invariant-loop-h
invariant-loop-h l =
    (length l.out ≡ length l.initial.out) × (l.n ≤ 1024) × (5120 ≤ length l.initial.out) × (rows_in (forest_at l.text l.at) ≡ rows_of (take (l.n * 5) l.out) ++ rows_in (forest_at l.text l.i))

abbrev pub decreases-loop-h : goal.decreases-loop-h
decreases-loop-h l = length l.text - l.i
