-- `next_tag` meets its contract: what stands at the next `<`.
use Rattle.std.proofs.Common.{ap, sym, ◌∙◌}
use Rattle.xml.specs.Tree.{Rest}
use Rattle.elements.proofs.Left.{past_next, none_next, close_next, empty_next, open_next}
use Rattle.elements.proofs.tags.next_tag.Goals as goal

pub returns-then-text-at : goal.returns-then-text-at
returns-then-text-at c = past_next c.args.text.now c.args.at c.if-text-at.true

pub returns-then-text-j : goal.returns-then-text-j
returns-then-text-j c = none_next c.args.text.now c.args.at c.find-j.result c.find-j.ensures c.if-text-j.true

pub returns-then-byte-eq47 : goal.returns-then-byte-eq47
returns-then-byte-eq47 c = close_next c.args.text.now c.args.at c.find-j.result c.find-j.ensures c.if-text-j.false (sym c.byte.ensures ∙ c.if-byte-eq47.true)

pub returns-then-tag_end : goal.returns-then-tag_end
returns-then-tag_end c =
    empty_next c.args.text.now c.args.at c.find-j.result c.find-j.ensures c.if-text-j.false (λ z. c.if-byte-eq47.false (c.byte.ensures ∙ z))
    (ap (λ (r : Rest). r.empty) c.tag_end.ensures.0 ∙ c.if-tag_end.true)

pub returns-else-tag_end : goal.returns-else-tag_end
returns-else-tag_end c =
    open_next c.args.text.now c.args.at c.find-j.result c.find-j.ensures c.if-text-j.false (λ z. c.if-byte-eq47.false (c.byte.ensures ∙ z))
    (ap (λ (r : Rest). r.empty) c.tag_end.ensures.0 ∙ c.if-tag_end.false)
