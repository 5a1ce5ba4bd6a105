-- `is_near` meets its contract. Invariant: so it is of the bytes passed.
use Prim.Native.Nat.{◌-◌, ◌≤◌}
use Rattle.xml.specs.Tree.{is_not}
use Rattle.elements.specs.ScanSteps.{Looked}
use Rattle.elements.proofs.scan.is_near.Given as goal

abbrev pub invariant-loop-k : goal.invariant-loop-k
invariant-loop-k l = (l.k ≤ 8) × Looked (is_not l.b) l.text l.i l.k l.near

abbrev pub decreases-loop-k : goal.decreases-loop-k
decreases-loop-k l = 8 - l.k
