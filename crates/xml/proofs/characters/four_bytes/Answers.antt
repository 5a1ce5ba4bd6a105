-- `four_bytes` meets its contract: the second byte is in the range that the first one asks for, and the others continue.
use native.Mathlib.Omega.{arith}
use borrow.Author.Tests.{leb-true, ltb-true}
use Rattle.xml.proofs.Leads.{lead_240, lead_four}
use Rattle.xml.proofs.Wide.{continued, completes_four}
use Rattle.xml.proofs.characters.four_bytes.Goals as goal

pub returns-in-240 : goal.returns-in-240
returns-in-240 c =
    let g = continued c.args.c c.continues.ensures c.if-continues.true in
    completes_four 144 191 (λ z p ns. lead_240 p ns c.args.b c.in-240.is) (λ z. (leb-true 144 c.args.c z, g.1))
    (continued c.args.d c.continues-then-continues.ensures c.if-continues-2.true) (continued c.args.e c.continues-then-continues-2.ensures c.if-continues-3.true)

pub returns-in_default : goal.returns-in_default
returns-in_default c =
    let g = continued c.args.c c.continues.ensures c.if-continues.true in
    completes_four 128 191 (λ z p ns. lead_four p ns c.args.b (omega arith) (ltb-true c.args.b 244 z)) (λ z. (g.0, g.1))
    (continued c.args.d c.continues-then-continues.ensures c.if-continues-2.true) (continued c.args.e c.continues-then-continues-2.ensures c.if-continues-3.true)
