-- `quoted_from` meets its contract. Invariant: what is quoted from here on is what is quoted from at on.
use Rattle.std.proofs.Common.{◌||◌, ◌+◌, ◌≡◌, eqb, ap, sym, ◌∙◌, drop, subst, arith}
use Rattle.xml.specs.Tree.{quoted, is_not}
use Rattle.xml.specs.ScanSteps.{Past}
use Rattle.elements.proofs.Finding.{item_at}
use Rattle.elements.proofs.Parts.{quoted_none, quoted_shut, quoted_on, quoted_some}
use Rattle.elements.proofs.heads.quoted_from.Goals as goal

pub returns-then-b-eq62 : goal.returns-then-b-eq62
returns-then-b-eq62 c =
    let s = c.args.text.now in
    let a = c.args.at in
    let k = c.loop-k.k in
    sym (c.loop-k.invariant ∙ quoted_shut s (a + k) (omega arith) (sym (item_at s a k) ∙ c.if-b-eq62.true))

pub returns-then-is_quote : goal.returns-then-is_quote
returns-then-is_quote c =
    let s = c.args.text.now in
    let a = c.args.at in
    let k = c.loop-k.k in
    let i = item_at s a k in
    quoted_some s (a + k) c.find.result (omega arith) (λ z. c.if-b-eq62.false (i ∙ z)) (ap (λ b. eqb b 34 || eqb b 39) (sym i) ∙ sym c.is_quote.ensures ∙ c.if-is_quote.true)
    (subst (λ b. Past (is_not b) s (a + k + 1) c.find.result) i c.find.ensures)
    ∙ sym c.loop-k.invariant

pub loop-k-preserved : goal.loop-k-preserved
loop-k-preserved c =
    let s = c.args.text.now in
    let a = c.args.at in
    let k = c.loop-k.k in
    let i = item_at s a k in
    let next : a + k + 1 ≡ a + (k + 1) = omega arith in
    c.loop-k.invariant ∙ quoted_on s (a + k) (omega arith) (λ z. c.if-b-eq62.false (i ∙ z)) (ap (λ b. eqb b 34 || eqb b 39) (sym i) ∙ sym c.is_quote.ensures ∙ c.if-is_quote.false)
    ∙ ap (λ j. quoted (drop j s)) next

pub returns : goal.returns
returns c = sym (c.loop-k.invariant ∙ quoted_none c.args.text.now (c.args.at + c.loop-k.k) (omega arith))
