-- `three_bytes` meets its contract: the second byte is in the range that the first one asks for, and the last continues.
use mathlib.Core.Path.{refl}
use native.Mathlib.Omega.{arith}
use borrow.Author.Tests.{le-ltb, lt-ltb, leb-true, ltb-true}
use Rattle.xml.specs.CheckSteps.{more, lead239, form_step}
use Rattle.xml.proofs.Leads.{lead_224, lead_three, lead_237, lead_239}
use Rattle.xml.proofs.Wide.{continued, next, completes_three}
use Rattle.xml.proofs.characters.three_bytes.Goals as goal

pub returns-in-224 : goal.returns-in-224
returns-in-224 c =
    let g = continued c.args.c c.continues.ensures c.if-continues.true in
    completes_three (λ p. more p 160 191 1) (λ p ns. lead_224 p ns c.args.b c.in-224.is) (λ e p ns. next p ns 160 191 1 _ refl (leb-true _ _ e) g.1) (continued c.args.d c.continues-then-continues.ensures c.if-continues-2.true)

pub returns-in-237 : goal.returns-in-237
returns-in-237 c =
    let g = continued c.args.c c.continues.ensures c.if-continues.true in
    completes_three (λ p. more p 128 159 1) (λ p ns. lead_237 p ns c.args.b c.in-237.is) (λ e p ns. next p ns 128 159 1 _ refl g.0 (leb-true _ _ e)) (continued c.args.d c.continues-then-continues.ensures c.if-continues-2.true)

pub returns-in-239 : goal.returns-in-239
unfolding form_step
returns-in-239 c =
    let g = continued c.args.c c.continues.ensures c.if-continues.true in
    completes_three (λ p. lead239 p) (λ p ns. lead_239 p ns c.args.b c.in-239.is) (λ e p ns. simp (le-ltb _ _ g.0, lt-ltb _ _ (ltb-true c.args.c 191 e))) (continued c.args.d c.continues-then-continues.ensures c.if-continues-2.true)

pub returns-in_default : goal.returns-in_default
returns-in_default c =
    let g = continued c.args.c c.continues.ensures c.if-continues.true in
    completes_three (λ p. more p 128 191 1) (λ p ns. lead_three p ns c.args.b (omega arith) (omega arith) (λ z. omega arith)) (λ e p ns. next p ns 128 191 1 _ refl g.0 g.1) (continued c.args.d c.continues-then-continues.ensures c.if-continues-2.true)
