-- `slices::put` meets its contract. Invariant: the first k bytes of src are pasted at their place.
use mathlib.Core.Path.{◌≡◌}
use lib.Seq.{paste}
use Rattle.slices.proofs.put.Given as goal

abbrev pub invariant-loop-k : goal.invariant-loop-k
invariant-loop-k l = l.out ≡ paste l.initial.out l.at l.src l.k
