-- `find_ahead` meets its contract. Invariant: b is found from i on where it is found from at on, and so i is in the text.
use mathlib.Core.Path.{refl, ap}
use mathlib.Core.Bool.{not}
use Prim.Native.Nat.{◌+◌}
use native.Mathlib.Omega.{arith}
use borrow.Author.Tests.{eq-eqb, ne_eqb}
use Rattle.xml.specs.Tree.{is_not}
use Rattle.elements.proofs.Finding.{onward_here, onward_more, onward_stop}
use Rattle.elements.proofs.scan.find_ahead.Goals as goal

pub loop-i-init : goal.loop-i-init
loop-i-init c = onward_here _ _ _ _ refl (omega arith)

pub loop-i-preserved : goal.loop-i-preserved
unfolding is_not
loop-i-preserved c =
    let l = c.loop-i in
    onward_more l.invariant (omega arith) (ap not (ne_eqb _ _ c.loop-i-test.true)) (l.i + 1) refl

pub returns : goal.returns
unfolding is_not
returns c = onward_stop c.loop-i.invariant (omega arith) (ap not (eq-eqb _ _ c.loop-i-test.false))
