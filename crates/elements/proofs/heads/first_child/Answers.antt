-- `first_child` meets its contract: the children's row begins behind the tag's `<`, or nowhere in the text.
use Rattle.std.proofs.Common.{arith}
use Rattle.elements.proofs.Parts.{children_none, children_some, tags_none, tags_some}
use Rattle.elements.proofs.heads.first_child.Goals as goal

pub returns-then-tag_end : goal.returns-then-tag_end
returns-then-tag_end c =
    let s = c.args.text.now in
    let i = c.inside-a in
    let t = c.tag_end in
    record {
      row = children_none s c.args.n i.result i.ensures.1 t.result.empty t.result.at t.ensures.0 c.if-tag_end.true;
      tags = tags_none s c.args.n i.result i.ensures.1 t.result.empty t.result.at t.ensures.0 c.if-tag_end.true;
      inside = omega arith;
    }

pub returns-else-tag_end : goal.returns-else-tag_end
returns-else-tag_end c =
    let s = c.args.text.now in
    let i = c.inside-a in
    let t = c.tag_end in
    record {
      row = children_some s c.args.n i.result i.ensures.1 t.result.empty t.result.at t.ensures.0 c.if-tag_end.false;
      tags = tags_some s c.args.n i.result i.ensures.1 t.result.empty t.result.at t.ensures.0 c.if-tag_end.false;
      inside = omega arith;
    }
