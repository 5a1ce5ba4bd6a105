-- `has_children` meets its contract: its children's row has an element where a start tag or an empty-element tag comes next.
use Rattle.std.proofs.Common.{inl, inr, ap, sym, subst, ◌∙◌}
use Rattle.elements.specs.Reading.{has_element}
use Rattle.elements.specs.TagSteps.{NextTag}
use Rattle.elements.proofs.Rows.{one_open, one_empty, none_more}
use Rattle.elements.proofs.heads.has_children.Goals as goal

pub returns-in-Open : goal.returns-in-Open
returns-in-Open c =
    let i = c.first_child in
    elim c.in-Open.is [
      | inl (n, e) ↦ sym (ap has_element (sym i.ensures.row) ∙ one_open n (subst (NextTag c.args.text.now i.result) e c.next_tag.ensures))
      | inr (n, e) ↦ sym (ap has_element (sym i.ensures.row) ∙ one_empty n (subst (NextTag c.args.text.now i.result) e c.next_tag.ensures))
    ]

pub returns-in_default : goal.returns-in_default
returns-in_default c =
    sym (ap has_element (sym c.first_child.ensures.row) ∙ none_more c.next_tag.result c.next_tag.ensures c.in_default.not-Open c.in_default.not-Empty)
