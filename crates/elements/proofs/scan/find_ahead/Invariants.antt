-- `find_ahead` meets its contract. Invariant: b is found from i on where it is found from at on, and so i is in the text.
use Prim.Native.Nat.{◌-◌}
use lib.ListN.{length}
use Rattle.xml.specs.Tree.{is_not}
use Rattle.elements.specs.ScanSteps.{Onward}
use Rattle.elements.proofs.scan.find_ahead.Given as goal

abbrev pub invariant-loop-i : goal.invariant-loop-i
invariant-loop-i l = Onward (is_not l.b) l.text l.at l.i

abbrev pub decreases-loop-i : goal.decreases-loop-i
decreases-loop-i l = length l.text - l.i
