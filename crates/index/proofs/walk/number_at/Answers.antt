-- `number_at` meets its contract: by the name that stands there.
use mathlib.Core.Path.{ap, ◌∙◌}
use Rattle.index_names.specs.Names.{names, number_in}
use Rattle.index.proofs.walk.number_at.Goals as goal

pub lying-requires : goal.lying-requires
lying-requires c = c.requires.name.inside

pub returns : goal.returns
returns c = c.number_in.ensures ∙ ap (number_in (names c.args.kind)) (c.lying.ensures ∙ c.requires.name.part)
