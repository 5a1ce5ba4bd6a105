-- `write_rows` meets its contract. Invariant: with the rows that are left written from the next place on, the buffer holds all.
use Prim.Native.Nat.{◌+◌, ◌*◌}
use lib.ListN.{length}
use Rattle.slices.specs.Slices.{written}
use Rattle.extents.specs.Rows.{numbers_of}
use Rattle.index_files.specs.EachRow.{rows_left}
use Rattle.index_files.proofs.Buffers.{Writing}
use Rattle.index_files.proofs.filling.write_rows.Given as goal

abbrev pub invariant-loop-k : goal.invariant-loop-k
invariant-loop-k l =
    Writing (written 0 (numbers_of (rows_left l.rows)) l.initial.out) (0 + length (rows_left l.rows) * 5) l.initial.out l.out (l.k-iterator.count * 5) (rows_left l.k-iterator.iter)
