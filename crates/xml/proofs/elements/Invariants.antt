-- `elements` meets its contract. Invariant: in the elements whose names are at the first d places, the outcome from i on is the same.
use mathlib.Core.List.{[], ◌∷◌}
use Prim.Native.Nat.{◌-◌}
use lib.ListN.{length, drop}
use Rattle.xml.specs.CheckSteps.{at, content, blank, form_run}
use Rattle.xml.proofs.OpenElements.{Stands}
use Rattle.xml.proofs.elements.Given as goal

abbrev pub invariant-loop-turn : goal.invariant-loop-turn
invariant-loop-turn l = Stands l.text (form_run (at (content blank) (l.name ∷ [])) (drop l.from l.text)) l.names l.depth l.i l.children

abbrev pub decreases-loop-turn : goal.decreases-loop-turn
decreases-loop-turn l = length l.text - l.i
