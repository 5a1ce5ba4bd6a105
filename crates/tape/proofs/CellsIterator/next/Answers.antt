-- `next` of the elements of a list gives the one at its place, and leaves those behind it.
use Rattle.std.proofs.Common.{sym, ◌∙◌, ap, rules}
use Rattle.tape.specs.WalkSteps.{passed}
use Rattle.tape.proofs.Left.{left_first, left_nothing}
use Rattle.tape.proofs.CellsIterator.next.Goals as goal

pub returns-in_err-cell-clause-steps : goal.returns-in_err-cell-clause-steps
returns-in_err-cell-clause-steps c =
    let s = c.args.self.now in
    let e = left_nothing s.list.now s.at (ap passed (sym c.entry_at.ensures) ∙ sym c.passed.ensures ∙ c.in_err-cell.was) in
    rw c.from_residual.ensures (e, e)

pub returns-clause-steps : goal.returns-clause-steps
returns-clause-steps c =
    let s = c.args.self.now in
    left_first s.list.now s.at (ap passed (sym c.entry_at.ensures) ∙ sym c.passed.ensures ∙ c.in_ok-cell.was)

pub returns-clause-goes : goal.returns-clause-goes
returns-clause-goes c =
    let s = c.args.self.now in
    let e = left_first s.list.now s.at (ap passed (sym c.entry_at.ensures) ∙ sym c.passed.ensures ∙ c.in_ok-cell.was) in
    search rules
