-- `children_row` meets its contract: an empty-element tag has none, any other holds what follows it.
use mathlib.Core.Path.{sym, ◌∙◌}
use native.Mathlib.Omega.{arith}
use lib.ListN.{length}
use Rattle.elements.specs.Reading.{children_at}
use Rattle.elements.proofs.Rows.{row_past}
use Rattle.index_values.proofs.rows.children_row.Goals as goal

pub returns-then-h : goal.returns-then-h
unfolding children_at
returns-then-h c = row_past c.args.text.now (length c.args.text.now) (omega arith) ∙ sym (rw (c.requires.empty ∙ c.if-h.true))

pub returns-else-h : goal.returns-else-h
unfolding children_at
returns-else-h c = sym (rw (c.requires.empty ∙ c.if-h.false))
