-- `is_near` meets its contract. Invariant: so it is of the bytes passed.
use mathlib.Core.Path.{◌≡◌, subst}
use mathlib.Core.Bool.{false≢true}
use Prim.Native.Nat.{ℕ}
use native.Mathlib.Omega.{arith}
use Rattle.xml.specs.Tree.{is_not}
use Rattle.elements.specs.ScanSteps.{Looked}
use Rattle.elements.proofs.Finding.{onward_here, looked_more}
use Rattle.elements.proofs.scan.is_near.Goals as goal

pub loop-k-init : goal.loop-k-init
loop-k-init c = (omega arith, record { none = λ e. onward_here _ _ _ _ (omega arith) (omega arith); some = λ e. absurd (false≢true e) })

pub loop-k-preserved : goal.loop-k-preserved
loop-k-preserved c =
    let l = c.loop-k in
    (omega arith, looked_more _ _ _ _ _ (omega arith) l.invariant.1)

pub returns : goal.returns
returns c =
    let l = c.loop-k in
    let z : l.k ≡ 8 = omega arith in
    subst (λ (n : ℕ). Looked (is_not c.args.b) c.args.text.now c.args.i n l.near) z l.invariant.1
