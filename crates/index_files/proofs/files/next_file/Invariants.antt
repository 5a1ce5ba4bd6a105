-- `next_file` meets its contract. Invariant: no file was passed.
use Prim.Native.Nat.{◌-◌, ◌≤◌}
use lib.ListN.{length}
use Rattle.index_files.proofs.Passing.{NonePassed}
use Rattle.index_files.proofs.files.next_file.Given as goal

abbrev pub invariant-loop-n : goal.invariant-loop-n
invariant-loop-n l = (l.at ≤ l.i) × NonePassed l.text l.at l.i

abbrev pub decreases-loop-n : goal.decreases-loop-n
decreases-loop-n l = length l.text - l.i
