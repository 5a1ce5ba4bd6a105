-- `number_placed` meets its contract: the number that the text says.
use mathlib.Core.Path.{ap, ◌∙◌}
use Rattle.index_values.specs.Entries.{number_or_zero}
use Rattle.index_values.proofs.tests.number_placed.Goals as goal

pub returns : goal.returns
returns c = c.number_said.ensures ∙ ap number_or_zero c.text_at.ensures
