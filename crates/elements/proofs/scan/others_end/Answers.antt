-- `others_end` meets its contract. Invariant: b is found from i on where it is found from at on.
use mathlib.Core.Path.{refl}
use native.Mathlib.Omega.{arith}
use Rattle.elements.proofs.Finding.{onward_here, onward_on}
use Rattle.elements.proofs.scan.others_end.Goals as goal

pub loop-i-init : goal.loop-i-init
loop-i-init c = onward_here _ _ _ _ refl c.requires

pub returns-then-is_near : goal.returns-then-is_near
returns-then-is_near c = record { onward = c.loop-i.invariant; ends = λ h. c.is_near.ensures.some c.if-is_near.true }

pub loop-i-preserved : goal.loop-i-preserved
loop-i-preserved c = onward_on c.loop-i.invariant (c.is_near.ensures.none c.if-is_near.false)

pub returns : goal.returns
returns c = record { onward = c.loop-i.invariant; ends = λ h. absurd (omega arith) }
