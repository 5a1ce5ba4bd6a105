-- `letters_end` meets its contract. Invariant: the name ends from i on where it ends from at on; the four places of a turn follow each other.
use Prim.Native.Nat.{◌-◌}
use lib.ListN.{length}
use Rattle.xml.specs.Bytes.{is_name_byte}
use Rattle.elements.specs.ScanSteps.{Onward}
use Rattle.elements.proofs.scan.letters_end.Given as goal

abbrev pub invariant-loop-i : goal.invariant-loop-i
invariant-loop-i l = Onward is_name_byte l.text l.at l.i

abbrev pub decreases-loop-i : goal.decreases-loop-i
decreases-loop-i l = length l.text - l.i
