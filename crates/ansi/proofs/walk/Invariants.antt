-- `walk` meets its contract. Invariant: `Matched`, what was read so far is what a reading comes to, and the rows hold its files.
use Rattle.ansi.proofs.Matching.{Matched}
use Rattle.ansi.proofs.walk.Given as goal

abbrev pub invariant-loop-at : goal.invariant-loop-at
invariant-loop-at l = Matched l.list l.store l.count l.initial.out l.out l.place l.at l.off l.end l.phase
