-- `word_end` meets its contract. Invariant: what is left of the word is read from i on.
use mathlib.Core.Path.{◌≡◌}
use mathlib.Core.List.{List}
use Prim.Native.Nat.{ℕ, ◌+◌, ◌≤◌}
use lib.ListN.{length, drop}
use Rattle.xml.specs.CheckSteps.{Mode, at, reads, form_run}
use Rattle.xml.proofs.bytes.word_end.Given as goal

abbrev pub invariant-loop-c : goal.invariant-loop-c
invariant-loop-c l =
    (l.i ≡ l.from + l.c-index) × (l.i ≤ length l.text)
    × ((p : Mode) (ns : List (List ℕ)) → form_run (at (reads p l.word) ns) (drop l.from l.text) ≡ form_run (at (reads p (drop l.c-index l.word)) ns) (drop l.i l.text))
