-- `two_bytes` meets its contract: behind a byte from 194 on one from 128 to 191 is the last.
use Rattle.xml.proofs.Leads.{lead_two}
use Rattle.xml.proofs.Wide.{completes_two}
use Rattle.xml.proofs.characters.two_bytes.Goals as goal

pub returns-then-b-ge194 : goal.returns-then-b-ge194
returns-then-b-ge194 c = completes_two (λ p ns. lead_two p ns c.args.b c.if-b-ge194.true c.requires.1) c.continues.ensures
