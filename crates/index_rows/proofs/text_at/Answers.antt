-- `text_at` meets its contract.
use mathlib.Core.Path.{ap, sym, ◌∙◌}
use Rattle.children.specs.Children.{text_of_first}
use Rattle.children.proofs.Seats.{seat_none, seat_some}
use Rattle.index_rows.proofs.text_at.Goals as goal

pub returns-then-n-eq0 : goal.returns-then-n-eq0
unfolding text_of_first
returns-then-n-eq0 c = sym (ap text_of_first (seat_none c.args.text.now c.args.n c.if-n-eq0.true))

pub returns-else-n-eq0 : goal.returns-else-n-eq0
unfolding text_of_first
returns-else-n-eq0 c = c.text_of.ensures ∙ sym (ap text_of_first (seat_some c.args.text.now c.args.n c.if-n-eq0.false))
