-- `wide_end` meets its contract: its arms are the tests of `char`.
use mathlib.Core.Path.{◌≡◌}
use Prim.Native.Nat.{◌<◌, ◌≤◌}
use native.Mathlib.Omega.{arith}
use Rattle.xml.proofs.Leads.{lead_two, lead_224, lead_three, lead_237, lead_239, lead_240, lead_four, lead_244, lead_low, lead_high}
use Rattle.xml.proofs.Scanned.{scan_stopped, scan_from}
use Rattle.xml.proofs.characters.wide_end.Goals as goal

pub returns-in-194-to-223 : goal.returns-in-194-to-223
returns-in-194-to-223 c = λ p. scan_from (λ ns. lead_two p ns c.args.b (omega arith) (omega arith)) (c.tail_end-in-194-to-223.ensures p)

pub returns-in-224 : goal.returns-in-224
returns-in-224 c = λ p. scan_from (λ ns. lead_224 p ns c.args.b (omega arith)) (c.tail_end.ensures p)

pub returns-in-237 : goal.returns-in-237
returns-in-237 c = λ p. scan_from (λ ns. lead_237 p ns c.args.b (omega arith)) (c.tail_end-in-237.ensures p)

pub returns-in-239 : goal.returns-in-239
returns-in-239 c = λ p. scan_from (λ ns. lead_239 p ns c.args.b (omega arith)) (c.end_239.ensures p)

pub returns-in-240 : goal.returns-in-240
returns-in-240 c = λ p. scan_from (λ ns. lead_240 p ns c.args.b (omega arith)) (c.tail_end-in-240.ensures p)

pub returns-in-241-to-243 : goal.returns-in-241-to-243
returns-in-241-to-243 c = λ p. scan_from (λ ns. lead_four p ns c.args.b (omega arith) (omega arith)) (c.tail_end-in-241-to-243.ensures p)

pub returns-in-244 : goal.returns-in-244
returns-in-244 c = λ p. scan_from (λ ns. lead_244 p ns c.args.b (omega arith)) (c.tail_end-in-244.ensures p)

pub returns-in-225-to-236 : goal.returns-in-225-to-236
returns-in-225-to-236 c =
    let h : (225 ≤ c.args.b) × (c.args.b < 239) × (c.args.b ≡ 237 → ⊥) = grind arith in
    λ p. scan_from (λ ns. lead_three p ns c.args.b h.0 h.1 h.2) (c.tail_end-in-225-to-236.ensures p)

pub returns-in_default : goal.returns-in_default
returns-in_default c = λ p. scan_stopped (omega arith) (λ ns. lead_low p ns c.args.b (omega arith) (omega arith))

pub returns-in_default-2 : goal.returns-in_default-2
returns-in_default-2 c = λ p. scan_stopped (omega arith) (λ ns. lead_high p ns c.args.b (omega arith))
