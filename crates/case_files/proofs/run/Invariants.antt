-- `run` ends, since each turn is one case less, and may call once more; no more cases were as expected than were read.
use Rattle.std.proofs.Common.{◌+◌, ◌≤◌}
use Rattle.case_files.proofs.run.Given as goal

abbrev pub invariant-loop-cases : goal.invariant-loop-cases
invariant-loop-cases g l = goal.F-IsAlwaysCallable g l.is_as_expected × (l.cases.good + l.cases.left ≤ l.cases.all)

abbrev pub decreases-loop-cases : goal.decreases-loop-cases
decreases-loop-cases g l = l.cases.left
