-- `past_indentation` meets its contract. Invariant: the bytes from `from` to i are white space; the four places of a turn follow each other.
use Prim.Native.Nat.{◌-◌}
use lib.ListN.{length}
use Rattle.xml.specs.Bytes.{is_space}
use Rattle.xml.specs.ScanSteps.{Along}
use Rattle.xml.proofs.bytes.past_indentation.Given as goal

abbrev pub invariant-loop-i : goal.invariant-loop-i
invariant-loop-i l = Along is_space l.text l.from l.i

abbrev pub decreases-loop-i : goal.decreases-loop-i
decreases-loop-i l = length l.text - l.i
