-- `span_in` meets its contract: the text of the element that is found.
use mathlib.Core.Path.{sym, ◌∙◌}
use native.Mathlib.Omega.{arith}
use Rattle.index_values.proofs.rows.span_in.Goals as goal

pub returns-in-Some : goal.returns-in-Some
returns-in-Some c =
    let f = c.in-Some.ensures in
    record { place = f.shape.place ∙ sym f.place; spans = record { part = f.shape.text.part ∙ sym f.text; inside = f.shape.text.inside } }

pub returns-in-None : goal.returns-in-None
returns-in-None c =
    let f = c.in-None.ensures in
    record { place = sym f.place; spans = record { part = sym f.text; inside = omega arith } }
