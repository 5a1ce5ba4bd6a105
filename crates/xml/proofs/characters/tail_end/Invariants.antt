-- `tail_end` meets its contract. Invariant: a scan from i on, where the bytes that are left of n are to follow, is a scan from `from` on.
use Prim.Native.Nat.{◌-◌, ◌≤◌}
use lib.ListN.{length}
use Rattle.xml.specs.CheckSteps.{Mode, at, more}
use Rattle.xml.specs.ScanSteps.{Scan, Scans, rest}
use Rattle.xml.proofs.characters.tail_end.Given as goal

abbrev pub invariant-loop : goal.invariant-loop
invariant-loop l =
    (l.i ≤ length l.text)
    × ((p : Mode) (r : Scan) → Scans l.text l.i (rest p (l.n - l.counter)) (at p) r → Scans l.text l.from (at (more p l.lo l.hi l.n)) (at p) r)
