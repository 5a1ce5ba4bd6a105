-- `key_of` meets its contract: a second name, behind the first one and white space.
use Rattle.elements.proofs.Parts.{key_part}
use Rattle.elements.proofs.heads.key_of.Goals as goal

pub returns : goal.returns
returns c =
    key_part c.args.text.now c.args.n c.inside-a.result c.inside-a.ensures.1 c.name_end.result c.name_end.ensures
    c.space_end-k.result c.name_end-e.result c.space_end-k.ensures c.name_end-e.ensures
