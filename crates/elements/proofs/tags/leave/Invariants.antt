-- `leave` meets its contract. Invariant: what is left around the d elements opened since, and the one that was open at at, stays.
use Prim.Native.Nat.{suc, ◌-◌, ◌≤◌, min}
use mathlib.Core.Path.{◌≡◌}
use lib.ListN.{length}
use Rattle.elements.specs.Tags.{tags_left, tags_around}
use Rattle.elements.proofs.Left.{pops}
use Rattle.elements.proofs.tags.leave.Given as goal

abbrev pub invariant-loop-n : goal.invariant-loop-n
invariant-loop-n l = (min l.at (length l.text) ≤ l.i) × (l.i ≤ length l.text) × (l.d ≤ l.i) × (pops (suc l.d) (tags_left l.text l.i) ≡ tags_around l.text l.at)

abbrev pub decreases-loop-n : goal.decreases-loop-n
decreases-loop-n l = length l.text - l.i
