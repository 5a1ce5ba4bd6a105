-- `next_start` meets its contract: what stands at the next `<`; an element by its name, which is small letters before `>`, or is of any other form.
use Rattle.std.proofs.Common.{sym, ◌∙◌}
use Rattle.elements.proofs.Finding.{onward_shut}
use Rattle.elements.proofs.Left.{past_next, none_next, close_next}
use Rattle.elements.proofs.Plain.{opens_next}
use Rattle.elements.proofs.starts.next_start.Goals as goal

pub returns-then-text-at : goal.returns-then-text-at
returns-then-text-at c = past_next c.args.text.now c.args.at c.if-text-at.true

pub returns-then-text-j : goal.returns-then-text-j
returns-then-text-j c = none_next c.args.text.now c.args.at c.find-j.result c.find-j.ensures c.if-text-j.true

pub returns-then-byte-eq47 : goal.returns-then-byte-eq47
returns-then-byte-eq47 c = close_next c.args.text.now c.args.at c.find-j.result c.find-j.ensures c.if-text-j.false (sym c.byte.ensures ∙ c.if-byte-eq47.true)

pub plain_start-requires : goal.plain_start-requires
plain_start-requires c = (onward_shut c.letters_end-e.ensures c.if-e-text.true c.if-text-e-eq62.true, c.if-e-text.true, c.if-text-e-eq62.true)

pub returns-then-text-e-eq62 : goal.returns-then-text-e-eq62
returns-then-text-e-eq62 c = opens_next c.args.text.now c.args.at c.find-j.result c.find-j.ensures c.if-text-j.false (λ z. c.if-byte-eq47.false (c.byte.ensures ∙ z)) c.plain_start.result c.plain_start.ensures

pub returns : goal.returns
returns c = opens_next c.args.text.now c.args.at c.find-j.result c.find-j.ensures c.if-text-j.false (λ z. c.if-byte-eq47.false (c.byte.ensures ∙ z)) c.other_start.result c.other_start.ensures
