-- `text_at` meets its contract: the text goes from the tag's end to the next `<`.
use Rattle.elements.proofs.Parts.{text_empty, text_found}
use Rattle.elements.proofs.heads.text_at.Goals as goal

pub returns-then-tag : goal.returns-then-tag
returns-then-tag c =
    let t = c.tag_end-tag in
    let i = c.inside in
    text_empty c.args.text.now c.args.n i.result i.ensures.1 t.result.empty t.result.at t.ensures.0 c.if-tag.true t.ensures.2

pub returns : goal.returns
returns c =
    let t = c.tag_end-tag in
    let i = c.inside in
    text_found c.args.text.now c.args.n i.result i.ensures.1 t.result.empty t.result.at t.ensures.0 c.find.result c.if-tag.false c.find.ensures
