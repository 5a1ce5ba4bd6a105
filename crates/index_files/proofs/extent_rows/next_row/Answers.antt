-- `next_row` meets its contract: the row of the first element, and the rows behind it.
use mathlib.Core.Path.{ap, sym, ◌∙◌}
use mathlib.Core.List.{◌∷◌}
use native.Mathlib.Omega.{arith}
use Rattle.elements.specs.Reading.{forest_at}
use Rattle.extents.specs.declared.Row as extents
use Rattle.index_values.specs.Tests.{row_of, rows_in}
use Rattle.index_files.proofs.Meeting.{rows_over, rows_first}
use Rattle.index_files.proofs.extent_rows.next_row.Goals as goal

pub returns-in_err-child : goal.returns-in_err-child
returns-in_err-child c = rw c.from_residual.ensures (rows_over c.args.text.now c.args.at (c.in_err-child.ensures {u = tt}))

pub returns : goal.returns
returns c =
    let s = c.args.text.now in
    let f = c.in_ok-child.ensures {u = tt} in
    record {
      rows = rows_first s c.args.at f ∙ ap (λ (x : extents.Row). x ∷ rows_in (forest_at s c.in_ok-child.child.next)) (sym (c.row_from.ensures ∙ ap row_of c.first_child.ensures.row));
      place = (omega (arith, f.place, f.after), f.after.1);
    }
