-- `next_item` meets its contract: an element without children goes on where it says, any other where it is left.
use Rattle.std.proofs.Common.{subst, inl, inr}
use Rattle.elements.specs.StartSteps.{NextStart}
use Rattle.elements.proofs.Rows.{row_end, row_close}
use Rattle.elements.proofs.Plain.{inner_first}
use Rattle.elements.proofs.starts.next_item.Goals as goal

pub returns-in-End : goal.returns-in-End
returns-in-End c =
    elim c.in-End.is [
      | inl e ↦ row_end (subst (NextStart c.args.text.now c.args.at) e c.next_start.ensures)
      | inr (n, e) ↦ row_close (subst (NextStart c.args.text.now c.args.at) e c.next_start.ensures)
    ]

pub returns-else-start : goal.returns-else-start
returns-else-start c = record { first = inner_first c.in-Opens.ensures c.if-start.false c.leave-next.ensures; shape = c.in-Opens.ensures.shape }
