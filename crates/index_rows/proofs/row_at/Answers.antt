-- `row_at` meets its contract.
use mathlib.Core.Path.{ap, sym, ◌∙◌}
use native.Mathlib.Omega.{arith}
use lib.ListN.{length}
use Rattle.elements.proofs.Rows.{row_past}
use Rattle.children.specs.Children.{children_of_first}
use Rattle.children.proofs.Seats.{seat_none, seat_some}
use Rattle.index_rows.proofs.row_at.Goals as goal

pub returns-then-n-eq0 : goal.returns-then-n-eq0
unfolding children_of_first
returns-then-n-eq0 c =
    let s = c.args.text.now in
    (row_past s (length s) (omega arith) ∙ sym (ap children_of_first (seat_none s c.args.n c.if-n-eq0.true)), omega arith)

pub returns-else-n-eq0 : goal.returns-else-n-eq0
unfolding children_of_first
returns-else-n-eq0 c =
    let s = c.args.text.now in
    (c.first_child.ensures.row ∙ sym (ap children_of_first (seat_some s c.args.n c.if-n-eq0.false)), c.first_child.ensures.inside)
