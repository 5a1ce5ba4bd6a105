-- `next_byte` meets its contract: an `&` means what its reference means.
use Rattle.std.proofs.Common.{sym, ◌∙◌, arith}
use Rattle.std.proofs.lemmas.Slice.{between_to_end}
use Rattle.texts.proofs.Meanings.{reference_at}
use Rattle.texts.proofs.next_byte.Goals as goal

pub returns : goal.returns
returns c =
    let f = c.in_ok-first in
    let r = c.reference-byte.ensures in
    reference_at c.args.raw.now c.args.at f.first.now f.rest.now
    (sym (between_to_end c.args.raw.now c.args.at _ (omega arith)) ∙ sym c.in_ok-get.ensures.lookup.0.2 ∙ f.ensures.cases.0)
    _ _ c.if-first-ne38.false r.0 r.1
