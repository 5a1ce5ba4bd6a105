-- `name_of` meets its contract: the part from the tag's place to the name's end.
use Rattle.elements.proofs.Parts.{name_part}
use Rattle.elements.proofs.heads.name_of.Goals as goal

pub returns : goal.returns
returns c = name_part c.args.text.now c.args.n c.inside-a.result c.inside-a.ensures.1 c.name_end-e.result c.name_end-e.ensures
