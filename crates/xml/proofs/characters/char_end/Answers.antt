-- `char_end` meets its contract: its arms are the tests of `char`.
use mathlib.Core.Path.{◌≡◌}
use Prim.Native.Nat.{◌<◌, ◌≤◌}
use native.Mathlib.Omega.{arith}
use Rattle.xml.specs.CheckSteps.{char}
use Rattle.xml.proofs.Leads.{lead_ascii, lead_blank, lead_control}
use Rattle.xml.proofs.Scanned.{scan_stopped, scan_from, scan_done}
use Rattle.xml.proofs.characters.char_end.Goals as goal

pub returns-then-b-eq38 : goal.returns-then-b-eq38
unfolding char
returns-then-b-eq38 c = λ p. scan_from (λ ns. rw c.if-b-eq38.true) (c.reference_end.ensures p)

pub returns-in-9 : goal.returns-in-9
returns-in-9 c =
    let h : (9 ≤ c.args.b) × (c.args.b ≤ 13) × (c.args.b ≡ 11 → ⊥) × (c.args.b ≡ 12 → ⊥) = grind arith in
    λ p. scan_from (λ ns. lead_blank p ns c.args.b h.0 h.1 h.2 h.3) (scan_done (omega arith))

pub returns-in_default : goal.returns-in_default
returns-in_default c =
    let h : (c.args.b < 32) × (c.args.b ≡ 9 → ⊥) × (c.args.b ≡ 10 → ⊥) × (c.args.b ≡ 13 → ⊥) = grind arith in
    λ p. scan_stopped (omega arith) (λ ns. lead_control p ns c.args.b h.0 h.1 h.2 h.3)

pub returns-in_default-2 : goal.returns-in_default-2
returns-in_default-2 c =
    let h : (c.args.b < 32) × (c.args.b ≡ 9 → ⊥) × (c.args.b ≡ 10 → ⊥) × (c.args.b ≡ 13 → ⊥) = grind arith in
    λ p. scan_stopped (omega arith) (λ ns. lead_control p ns c.args.b h.0 h.1 h.2 h.3)

pub returns-then-b-ge32 : goal.returns-then-b-ge32
returns-then-b-ge32 c = λ p. scan_from (λ ns. lead_ascii p ns c.args.b (omega arith) (omega arith) (λ z. omega arith)) (scan_done (omega arith))
