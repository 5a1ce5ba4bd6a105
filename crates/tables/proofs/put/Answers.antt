-- `put` meets its contract: past the end nothing is put.
use mathlib.Core.Path.{sym}
use lib.Seq.{set_out}
use Rattle.tables.proofs.put.Goals as goal

pub returns-else-n-table : goal.returns-else-n-table
returns-else-n-table g c = sym (set_out _ _ _ c.if-n-table.false)
