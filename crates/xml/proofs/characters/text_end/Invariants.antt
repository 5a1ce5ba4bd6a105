-- `text_end` meets its contract. Invariant: a scan of the text from i on, behind n `]`, is a scan of it from `from` on.
use mathlib.Core.Bool.{false}
use Prim.Native.Nat.{◌-◌, ◌≤◌}
use lib.ListN.{length}
use Rattle.xml.specs.CheckSteps.{at, content, words, opens}
use Rattle.xml.specs.ScanSteps.{Scan, Scans}
use Rattle.xml.proofs.characters.text_end.Given as goal

abbrev pub invariant-loop-b : goal.invariant-loop-b
invariant-loop-b l =
    (l.from ≤ l.i) × (l.i ≤ length l.text) × (l.n ≤ 2)
    × ((r : Scan) → Scans l.text l.i (at (content (words l.n))) (at (opens false)) r → Scans l.text l.from (at (content (words 0))) (at (opens false)) r)

abbrev pub decreases-loop-b : goal.decreases-loop-b
decreases-loop-b l = length l.text - l.i
