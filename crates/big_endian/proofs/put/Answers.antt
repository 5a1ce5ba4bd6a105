-- `big_endian::put` meets its contract. Invariant: with the bytes that are left written too, the buffer is as promised.
use mathlib.Core.Path.{◌≡◌, ap, sym, ◌∙◌}
use Prim.Native.Nat.{ℕ, ◌+◌, ◌-◌}
use native.Mathlib.Omega.{arith}
use lib.ListN.{length}
use Rattle.slices.proofs.Writers.{puts_short, puts_whole}
use Rattle.big_endian.specs.BigEndian.{big_endian}
use Rattle.big_endian.proofs.Left.{length_big_endian, left_less, left_none}
use Rattle.slices.specs.Slices.{written}
use Rattle.big_endian.proofs.put.Goals as goal
use Rattle.big_endian.proofs.put.Goals.{then-out-at-via-then-out-at, then-out-at-via-else-out-at+then-out-at-2}

pub returns-then-out-at : goal.returns-then-out-at
returns-then-out-at c =
    let w = length_big_endian c.args.width c.args.n in
    elim c.then-out-at.branch [
      | then-out-at-via-then-out-at v ↦ puts_short _ _ _ (omega (arith, v.if-out-at.true))
      | then-out-at-via-else-out-at+then-out-at-2 v ↦ puts_short _ _ _ (omega (arith, v.if-out-at.false, v.if-out-at-2.true))
    ]

pub loop-i-init : goal.loop-i-init
loop-i-init c =
    let a = c.args in
    let d : a.at + a.width - a.at ≡ a.width = omega arith in
    (omega arith, ap (λ (k : ℕ). written a.at (big_endian k a.n) a.out.now) d)

pub loop-i-preserved : goal.loop-i-preserved
loop-i-preserved c =
    let l = c.loop-i in
    let at : ℕ = c.args.at in
    let d : l.i - 1 - at ≡ l.i - at - 1 = omega arith in
    let e : l.i - 1 ≡ at + (l.i - at - 1) = omega arith in
    (omega arith, rw (c.lowest.ensures, d, e) (left_less at l.out (l.i - at) l.rest (omega arith) (omega (arith, l.auto.out)) ∙ l.invariant.1))

pub returns : goal.returns
returns c =
    let a = c.args in
    let l = c.loop-i in
    let w : length (big_endian a.width a.n) ≡ a.width = length_big_endian a.width a.n in
    puts_whole a.at (big_endian a.width a.n) a.out.now l.out (a.at + a.width) (omega arith) (ap (λ (k : ℕ). a.at + k) (sym w))
    (sym (left_none a.at l.out (l.i - a.at) l.rest (omega arith)) ∙ l.invariant.1)
