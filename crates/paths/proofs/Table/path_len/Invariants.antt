-- `path_len` meets its contract. Invariant: the path of the entry reached and the room that was taken are the whole path.
use Prim.Native.Nat.{◌+◌, ◌≤◌}
use mathlib.Core.Path.{◌≡◌}
use mathlib.Core.Bool.{true}
use lib.ListN.{length}
use Rattle.paths.specs.Paths.{path_down}
use Rattle.paths.specs.Steps.{is_answer, path_bytes}
use Rattle.paths.proofs.Climbing.{InTable}
use Rattle.paths.proofs.Table.path_len.Given as goal

abbrev pub invariant-loop-n : goal.invariant-loop-n
invariant-loop-n l =
    InTable l.self l.n-iterator × (is_answer (path_down l.self.text.now l.self.entries.now l.n-iterator.n) ≡ true) × (l.left ≤ l.room)
    × (length (path_bytes l.self.text.now l.self.entries.now l.entry) + l.left ≡ length (path_bytes l.self.text.now l.self.entries.now l.n-iterator.n) + l.room)
