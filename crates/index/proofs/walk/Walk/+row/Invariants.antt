-- `row` meets its contract. Invariant: sweeping the whole row comes to the same as sweeping its rest with what is gathered so far. It
-- calls itself with one level of nesting less, for the elements inside one.
use Prim.Native.Nat.{◌-◌}
use lib.ListN.{length}
use Rattle.index.proofs.Steps.{Sweeping}
use Rattle.index.proofs.walk.Walk.+row.Given as goal

abbrev pub decreases-row : goal.decreases-row
decreases-row l = l.depth

abbrev pub invariant-loop-seen : goal.invariant-loop-seen
invariant-loop-seen l = Sweeping l.source l.kind l.at l.parent l.depth l.initial.self l.self l.i l.seen l.places

abbrev pub decreases-loop-seen : goal.decreases-loop-seen
decreases-loop-seen l = length l.source.text.now - l.i
