-- `location_at` meets its contract: what the texts of `partition` and `startblock` say.
use mathlib.Core.Path.{ap, ◌∙◌}
use Rattle.slices.specs.Words.{bytes}
use Rattle.index_values.specs.Tests.{letter_or_zero}
use Rattle.index.proofs.read.location_at.Goals as goal

pub returns : goal.returns
unfolding bytes
returns c = rw (c.letter_said.ensures ∙ ap letter_or_zero c.text_in.ensures, c.number_named.ensures)
