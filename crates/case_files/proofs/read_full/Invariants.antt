-- What `read_full` has put in the buffer is within it.
use Rattle.std.proofs.Common.{◌≡◌, ◌≤◌, length}
use Rattle.case_files.proofs.read_full.Given as goal

abbrev pub invariant-loop : goal.invariant-loop
invariant-loop g l = (length l.buf ≡ length l.initial.buf) × (l.done ≤ length l.buf)
