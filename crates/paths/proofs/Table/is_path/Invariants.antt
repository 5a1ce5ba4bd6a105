-- `is_path` meets its contract. Invariant: the entry has a path exactly where the one that was reached has.
use mathlib.Core.Path.{◌≡◌}
use Rattle.paths.specs.Paths.{path_down}
use Rattle.paths.specs.Steps.{is_answer}
use Rattle.paths.proofs.Climbing.{InTable}
use Rattle.paths.proofs.Table.is_path.Given as goal

abbrev pub invariant-loop-n : goal.invariant-loop-n
invariant-loop-n l =
    InTable l.self l.n-iterator × (is_answer (path_down l.self.text.now l.self.entries.now l.entry) ≡ is_answer (path_down l.self.text.now l.self.entries.now l.n-iterator.n))
