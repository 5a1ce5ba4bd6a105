-- `byte_end` meets its contract: white space, and then the byte, another or none.
use mathlib.Core.Path.{ap, ◌∙◌}
use native.Mathlib.Omega.{arith}
use lib.ListN.{length}
use Rattle.xml.specs.Bytes.{is_space}
use Rattle.xml.specs.CheckSteps.{form_step}
use Rattle.xml.proofs.Past.{past_stop}
use Rattle.xml.proofs.Scanned.{found_none, scan_past, scan_at, scan_done, scan_out, scan_refused}
use Rattle.xml.proofs.tags.byte_end.Goals as goal

pub returns-in-Some : goal.returns-in-Some
returns-in-Some c =
    let g = c.in-Some.ensures.lookup in
    λ p σ n s stays leads stops.
    scan_past stays c.past_spaces-i.ensures (scan_at c.in-Some.c.now g.3.0 (g.4 (omega arith) 0) (λ ns. ap (form_step p ns) c.if-c-b.true ∙ leads ns) (scan_done (omega (arith, g.3.0))))

pub returns-in_default : goal.returns-in_default
returns-in_default c =
    let g = c.in-Some.ensures.lookup in
    let e = c.past_spaces-i.ensures in
    λ p σ n s stays leads stops.
    scan_past stays e (scan_refused c.in-Some.c.now (g.4 (omega arith) 0) e.inside n (λ ns. stops ns c.in-Some.c.now (ap is_space (g.4 (omega arith) 0) ∙ past_stop e g.3.0) c.if-c-b.false))

pub returns-in_default-2 : goal.returns-in_default-2
returns-in_default-2 c =
    let e = c.past_spaces-i.ensures in
    λ p σ n s stays leads stops. scan_past stays e (scan_out e.inside (found_none c.past_spaces-i.result (length c.args.text.now) c.in_default.is c.get.ensures.lookup.0) n)
