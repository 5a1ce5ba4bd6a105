-- `letters_end` meets its contract. Invariant: the name ends from i on where it ends from at on; the four places of a turn follow each other.
use mathlib.Core.Path.{refl, sym, ◌∙◌}
use Prim.Native.Nat.{◌+◌}
use native.Mathlib.Omega.{arith}
use Rattle.elements.proofs.Names.{small_name}
use Rattle.elements.proofs.Finding.{onward_here, onward_more}
use Rattle.elements.proofs.scan.letters_end.Goals as goal

pub loop-i-init : goal.loop-i-init
loop-i-init c = onward_here _ _ _ _ refl c.requires

pub returns-then-not-is_small : goal.returns-then-not-is_small
returns-then-not-is_small c = c.loop-i.invariant

pub returns-then-not-is_small-2 : goal.returns-then-not-is_small-2
returns-then-not-is_small-2 c =
    let l = c.loop-i in
    let i = l.i in
    let o = l.invariant in
    onward_more o (omega arith) (small_name _ (sym c.is_small.ensures ∙ c.if-not-is_small.false)) (i + 1) (omega arith)

pub returns-then-not-is_small-3 : goal.returns-then-not-is_small-3
returns-then-not-is_small-3 c =
    let l = c.loop-i in
    let i = l.i in
    let o = l.invariant in
    let o1 = onward_more o (omega arith) (small_name _ (sym c.is_small.ensures ∙ c.if-not-is_small.false)) (i + 1) (omega arith) in
    onward_more o1 (omega arith) (small_name _ (sym c.is_small-in-loop-i.ensures ∙ c.if-not-is_small-2.false)) (i + 2) (omega arith)

pub returns-then-not-is_small-4 : goal.returns-then-not-is_small-4
returns-then-not-is_small-4 c =
    let l = c.loop-i in
    let i = l.i in
    let o = l.invariant in
    let o1 = onward_more o (omega arith) (small_name _ (sym c.is_small.ensures ∙ c.if-not-is_small.false)) (i + 1) (omega arith) in
    let o2 = onward_more o1 (omega arith) (small_name _ (sym c.is_small-in-loop-i.ensures ∙ c.if-not-is_small-2.false)) (i + 2) (omega arith) in
    onward_more o2 (omega arith) (small_name _ (sym c.is_small-in-loop-i-2.ensures ∙ c.if-not-is_small-3.false)) (i + 3) (omega arith)

pub loop-i-preserved : goal.loop-i-preserved
loop-i-preserved c =
    let l = c.loop-i in
    let i = l.i in
    let o = l.invariant in
    let o1 = onward_more o (omega arith) (small_name _ (sym c.is_small.ensures ∙ c.if-not-is_small.false)) (i + 1) (omega arith) in
    let o2 = onward_more o1 (omega arith) (small_name _ (sym c.is_small-in-loop-i.ensures ∙ c.if-not-is_small-2.false)) (i + 2) (omega arith) in
    let o3 = onward_more o2 (omega arith) (small_name _ (sym c.is_small-in-loop-i-2.ensures ∙ c.if-not-is_small-3.false)) (i + 3) (omega arith) in
    onward_more o3 (omega arith) (small_name _ (sym c.is_small-in-loop-i-3.ensures ∙ c.if-not-is_small-4.false)) (i + 4) (omega arith)

pub returns : goal.returns
returns c = c.loop-i.invariant
