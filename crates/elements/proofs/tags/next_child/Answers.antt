-- `next_child` meets its contract: the row's first element by its tag, and the row behind it where the element is left.
use Rattle.std.proofs.Common.{subst, inl, inr}
use Rattle.elements.specs.TagSteps.{NextTag}
use Rattle.elements.proofs.Rows.{row_end, row_close, first_open, first_empty}
use Rattle.elements.proofs.tags.next_child.Goals as goal

pub returns-in-End : goal.returns-in-End
returns-in-End c =
    elim c.in-End.is [
      | inl e ↦ row_end (subst (NextTag c.args.text.now c.args.at) e c.next_tag.ensures)
      | inr (n, e) ↦ row_close (subst (NextTag c.args.text.now c.args.at) e c.next_tag.ensures)
    ]

pub returns-in-Open : goal.returns-in-Open
returns-in-Open c = first_open c.in-Open.ensures c.leave.ensures

pub returns-in-Empty : goal.returns-in-Empty
returns-in-Empty c = first_empty c.in-Empty.ensures
