-- `are_different` meets its contract. Invariant: those from i on are all different, and none is below low, so one below low is new.
use Rattle.index_values.proofs.Differ.{Above}
use Rattle.index_values.specs.Different.{different}
use lib.ListN.{drop}
use mathlib.Core.Path.{◌≡◌}
use mathlib.Core.Bool.{true}
use Rattle.index_values.proofs.uids.are_different.Given as goal

abbrev pub invariant-loop-i : goal.invariant-loop-i
invariant-loop-i l = (different (drop l.i l.t) ≡ true) × Above l.low (drop l.i l.t)
