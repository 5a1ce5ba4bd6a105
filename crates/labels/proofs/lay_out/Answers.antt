-- `lay_out` meets its contract: a step at each return.
use Rattle.std.proofs.Common.{sym}
use Rattle.labels.proofs.Elements.{first_not, second_not, third_not, fourth_not, all_four}
use Rattle.labels.proofs.lay_out.Goals as goal

pub returns-in_err-vol1 : goal.returns-in_err-vol1
returns-in_err-vol1 c = λ s t e. rw c.from_residual.ensures (first_not e (sym c.in_err-vol1.ensures))

pub returns-in_err-third : goal.returns-in_err-third
returns-in_err-third c = λ s t e. rw c.from_residual-in_err-third.ensures (second_not e _ _ (sym c.in_ok-vol1.ensures) (sym c.in_err-third.ensures))

pub returns-in_err-text : goal.returns-in_err-text
returns-in_err-text c =
    λ s t e. rw c.from_residual-in_err-text.ensures (third_not e _ _ (sym c.in_ok-vol1.ensures) _ (sym c.in_ok-third.ensures) (sym c.in_err-text.ensures))

pub returns-in_err-past_mark : goal.returns-in_err-past_mark
returns-in_err-past_mark c =
    λ s t e.
    rw c.from_residual-in_err-past_mark.ensures
    (fourth_not e _ _ (sym c.in_ok-vol1.ensures) _ (sym c.in_ok-third.ensures) _ _ (sym c.in_ok-text.ensures) (sym c.in_err-past_mark.ensures))

pub returns : goal.returns
returns c = λ s t e. all_four e _ _ (sym c.in_ok-vol1.ensures) _ (sym c.in_ok-third.ensures) _ _ (sym c.in_ok-text.ensures) _ (sym c.in_ok-past_mark.ensures)
