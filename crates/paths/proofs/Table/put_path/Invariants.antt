-- `put_path` meets its contract. Invariant: the path of the entry reached, written in front of what was written, is the whole path written.
use Prim.Native.Nat.{◌≤◌}
use mathlib.Core.Path.{◌≡◌}
use mathlib.Core.Bool.{true}
use lib.ListN.{length}
use Rattle.slices.specs.Slices.{written}
use Rattle.paths.specs.Paths.{path_down}
use Rattle.paths.specs.Steps.{is_answer, path_bytes}
use Rattle.paths.proofs.Climbing.{InTable}
use Rattle.paths.proofs.Table.put_path.Given as goal

abbrev pub invariant-loop-n : goal.invariant-loop-n
invariant-loop-n l =
    InTable l.self l.n-iterator × (is_answer (path_down l.self.text.now l.self.entries.now l.n-iterator.n) ≡ true)
    × (l.end ≡ length (path_bytes l.self.text.now l.self.entries.now l.n-iterator.n)) × (l.end ≤ length l.out) × (length l.out ≡ length l.initial.out)
    × (written 0 (path_bytes l.self.text.now l.self.entries.now l.n-iterator.n) l.out ≡ written 0 (path_bytes l.self.text.now l.self.entries.now l.entry) l.initial.out)
