-- `extend` meets its contract. Invariant: behind element i the table holds how far data blocks reach, before it the lengths.
use Rattle.constructs.proofs.Reaching.{ReachAt}
use Rattle.constructs.proofs.reach.extend.Given as goal

abbrev pub invariant-loop-i : goal.invariant-loop-i
invariant-loop-i l = ReachAt l.size l.count l.initial.table l.table l.i l.next
