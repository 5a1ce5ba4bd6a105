-- `back_at` meets its contract: by the first element of the row.
use mathlib.Core.Path.{ap, sym, ◌∙◌}
use Rattle.std.specs.Prelude.{Some}
use Rattle.elements.specs.Reading.{has_element}
use Rattle.index.specs.Index.{back_at}
use Rattle.index.proofs.read.back_at.Goals as goal

pub returns-in_err-next_child : goal.returns-in_err-next_child
unfolding has_element
returns-in_err-next_child c = rw c.from_residual.ensures (sym (ap back_at (c.in_err-next_child.ensures {u = tt})))

pub returns : goal.returns
unfolding has_element
returns c = ap Some c.location_at.ensures ∙ sym (rw (ap has_element (c.in_ok-next_child.ensures {u = tt}).row))
