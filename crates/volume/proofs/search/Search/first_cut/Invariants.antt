-- `first_cut` meets its contract. Invariant: no construct passed has a cut.
use Rattle.std.proofs.Common.{ℕ, ◌≤◌, ◌<◌}
use Rattle.std.specs.Prelude.{None}
use Rattle.volume.specs.Readers.{TriesIn}
use Rattle.volume.proofs.search.Search.first_cut.Given as goal

abbrev pub invariant-loop-k : goal.invariant-loop-k
invariant-loop-k l = (m : ℕ) → l.k ≤ m → m < l.self.filled.index.count → TriesIn l.self m None
