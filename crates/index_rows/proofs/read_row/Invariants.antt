-- `read_row` meets its contract. Invariant: the places noted so far and what is left of the row.
use mathlib.Core.Path.{◌≡◌}
use Prim.Native.Nat.{◌-◌, ◌≤◌, min}
use lib.ListN.{length}
use Rattle.elements.specs.Tags.{tags_around}
use Rattle.index_rows.proofs.Placing.{Noting}
use Rattle.index_rows.proofs.read_row.Given as goal

abbrev pub invariant-loop-places : goal.invariant-loop-places
invariant-loop-places l =
    (min l.at (length l.text) ≤ l.i) × (tags_around l.text l.at ≡ tags_around l.text l.i) × Noting l.text l.kind l.at l.i l.places

abbrev pub decreases-loop-places : goal.decreases-loop-places
decreases-loop-places l = length l.text - l.i
