-- `value_end` meets its contract. Invariant: a scan of the value from i on is a scan of it from `from` on.
use Prim.Native.Nat.{◌-◌, ◌≤◌}
use lib.ListN.{length}
use Rattle.xml.specs.CheckSteps.{at, value, valued}
use Rattle.xml.specs.ScanSteps.{Scan, Scans}
use Rattle.xml.proofs.characters.value_end.Given as goal

abbrev pub invariant-loop-b : goal.invariant-loop-b
invariant-loop-b l = (l.from ≤ l.i) × (l.i ≤ length l.text) × ((r : Scan) → Scans l.text l.i (at (value l.q)) (at valued) r → Scans l.text l.from (at (value l.q)) (at valued) r)

abbrev pub decreases-loop-b : goal.decreases-loop-b
decreases-loop-b l = length l.text - l.i
