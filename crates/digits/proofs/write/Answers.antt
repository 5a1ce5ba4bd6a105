-- `digits::write` meets its contract. Invariant: with the digits that are left written too, the buffer is as promised.
use mathlib.Core.Path.{◌≡◌, ap, sym, ◌∙◌}
use mathlib.Core.List.{map}
use Prim.Native.Nat.{ℕ, ◌+◌, ◌-◌}
use native.Mathlib.Omega.{arith}
use Rattle.slices.specs.Slices.{written}
use Rattle.slices.proofs.Writers.{puts_short, puts_whole}
use Rattle.digits.specs.Runs as run
use Rattle.digits.specs.Decimal.{byte_of, short}
use Rattle.digits.proofs.Short.{short_width}
use Rattle.digits.proofs.Left.{left_less, left_none}
use Rattle.digits.proofs.write.Goals as goal
use Rattle.digits.proofs.write.Goals.{then-out-at-via-then-out-at, then-out-at-via-else-out-at+then-out-at-2}

pub returns-then-out-at : goal.returns-then-out-at
returns-then-out-at c =
    elim c.then-out-at.branch [
      | then-out-at-via-then-out-at w ↦ puts_short _ _ _ (omega (arith, c.width-w.ensures))
      | then-out-at-via-else-out-at+then-out-at-2 w ↦ puts_short _ _ _ (omega (arith, c.width-w.ensures))
    ]

pub loop-i-init : goal.loop-i-init
unfolding short
loop-i-init c =
    let a = c.args in
    let d : a.at + c.width-w.result - a.at ≡ run.width 10 a.n = omega (arith, c.width-w.ensures, short_width a.n) in
    (omega arith, ap (λ (k : ℕ). written a.at (map byte_of (run.digits 10 k a.n)) a.out.now) d)

pub loop-i-preserved : goal.loop-i-preserved
loop-i-preserved c =
    let l = c.loop-i in
    let at : ℕ = c.args.at in
    let d : l.i - 1 - at ≡ l.i - at - 1 = omega arith in
    let e : l.i - 1 ≡ at + (l.i - at - 1) = omega arith in (
      omega arith,
      rw (c.last.ensures, d, e) (left_less byte_of 10 at l.out (l.i - at) l.v (omega arith) (omega (arith, l.auto.out)) ∙ l.invariant.1),
    )

pub returns : goal.returns
returns c =
    let a = c.args in
    let l = c.loop-i in
    puts_whole a.at (short a.n) a.out.now l.out _ (omega (arith, c.width-w.ensures)) (ap (λ (k : ℕ). a.at + k) c.width-w.ensures)
    (sym (left_none byte_of 10 a.at l.out (l.i - a.at) l.v (omega arith)) ∙ l.invariant.1)
