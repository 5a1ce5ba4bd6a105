-- `extents::apart` meets its contract. Invariant: the rows behind are apart, and none begins below low.
use Rattle.std.proofs.Common.{◌≡◌, true, drop}
use Rattle.extents.specs.Rows.{rows_of}
use Rattle.extents.specs.Lawful.{apart}
use Rattle.extents.proofs.Backwards.{above}
use Rattle.extents.proofs.apart.Given as goal

abbrev pub invariant-loop-k : goal.invariant-loop-k
invariant-loop-k l =
    (apart (drop l.k (rows_of l.rows)) ≡ true) × (above l.low (drop l.k (rows_of l.rows)) ≡ true)
