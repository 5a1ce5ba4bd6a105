-- `value_of` meets its contract: what is quoted behind the name.
use mathlib.Core.Path.{◌∙◌}
use Rattle.elements.proofs.Parts.{value_part}
use Rattle.elements.proofs.heads.value_of.Goals as goal

pub returns : goal.returns
returns c = c.quoted_from.ensures ∙ value_part c.args.text.now c.args.n c.inside-a.result c.inside-a.ensures.1 c.name_end.result c.name_end.ensures
