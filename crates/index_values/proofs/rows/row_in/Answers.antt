-- `row_in` meets its contract: the row of the element that is found.
use mathlib.Core.Path.{sym, ◌∙◌}
use native.Mathlib.Omega.{arith}
use lib.ListN.{length}
use Rattle.elements.proofs.Rows.{row_past}
use Rattle.index_values.proofs.rows.row_in.Goals as goal

pub returns-in-Some : goal.returns-in-Some
returns-in-Some c = c.children_row.ensures ∙ sym c.in-Some.ensures.row

pub returns-in-None : goal.returns-in-None
returns-in-None c =
    let s = c.args.text.now in
    row_past s (length s) (omega arith) ∙ sym c.in-None.ensures.row
