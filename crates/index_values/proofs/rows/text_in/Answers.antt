-- `text_in` meets its contract: the part that the span names.
use mathlib.Core.Path.{◌∙◌}
use Rattle.index_values.proofs.rows.text_in.Goals as goal

pub returns : goal.returns
returns c = c.part.ensures ∙ c.span_in.ensures.spans.part
