-- `number_named` meets its contract: the number that the text says.
use mathlib.Core.Path.{ap, ◌∙◌}
use Rattle.index_values.specs.Entries.{number_or_zero}
use Rattle.index_values.proofs.tests.number_named.Goals as goal

pub returns : goal.returns
returns c = c.number_said.ensures ∙ ap number_or_zero c.text_in.ensures
