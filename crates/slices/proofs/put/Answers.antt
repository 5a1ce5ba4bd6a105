-- `slices::put` meets its contract: no room, or the copy.
use mathlib.Core.Path.{◌≡◌, refl, ap, ◌∙◌}
use mathlib.Core.List.{List}
use Prim.Native.Nat.{ℕ, ◌+◌}
use native.Mathlib.Omega.{arith}
use native.Mathlib.Numerals.{add-one}
use lib.ListN.{get_or, set, length}
use lib.Seq.{paste, paste-zero, paste-suc}
use Rattle.slices.proofs.Writing.{written_paste}
use Rattle.slices.proofs.Writers.{puts_short, puts_whole}
use Rattle.slices.proofs.put.Goals as goal

pub returns-then-out-at : goal.returns-then-out-at
returns-then-out-at c = puts_short _ _ _ (omega arith)

pub loop-k-init : goal.loop-k-init
loop-k-init c = paste-zero c.args.out.now c.args.at c.args.src.now

pub loop-k-preserved : goal.loop-k-preserved
loop-k-preserved c =
    let l = c.loop-k in
    let a = c.args in
    ap (λ (o : List ℕ). set o (a.at + l.k) (get_or a.src.now l.k 0)) l.invariant
    ∙ rw add-one (paste-suc a.out.now a.at a.src.now l.k 0 (omega arith) (omega arith))

pub returns : goal.returns
returns c =
    let l = c.loop-k in
    let a = c.args in
    let e : l.k ≡ length a.src.now = omega arith in
    puts_whole a.at a.src.now a.out.now l.out _ (omega arith) refl
    (l.invariant ∙ ap (paste a.out.now a.at a.src.now) e ∙ written_paste a.at a.src.now a.out.now)
