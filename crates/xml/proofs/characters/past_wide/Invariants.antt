-- `past_wide` meets its contract. Invariant: what is before i is text; each turn passes one character.
use Prim.Native.Nat.{◌-◌, ◌≤◌}
use lib.ListN.{length}
use Rattle.xml.specs.ScanSteps.{TextTo}
use Rattle.xml.proofs.characters.past_wide.Given as goal

abbrev pub invariant-loop-i : goal.invariant-loop-i
invariant-loop-i l = (l.i ≤ length l.text) × TextTo l.text l.from l.i

abbrev pub decreases-loop-i : goal.decreases-loop-i
decreases-loop-i l = length l.text - l.i
