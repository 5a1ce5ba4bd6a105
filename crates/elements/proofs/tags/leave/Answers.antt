-- `leave` meets its contract. Invariant: what is left around the d elements opened since, and the one that was open at at, stays.
use Prim.Native.Nat.{ℕ, suc, ◌-◌}
use mathlib.Core.Path.{◌≡◌, sym, ap, ◌∙◌}
use mathlib.Core.List.{[], List}
use native.Mathlib.Omega.{arith}
use native.Mathlib.Numerals.{add-one}
use lib.ListN.{length}
use Rattle.xml.specs.Tree.{pop, closed, opened, alone}
use Rattle.elements.specs.Tags.{tags_of, tags_left}
use Rattle.elements.proofs.Rows.{behind}
use Rattle.elements.proofs.Left.{left_end, pops, pops_none}
use borrow.Author.Rules.{rules}
use Rattle.elements.proofs.tags.leave.Goals as goal

pub loop-n-init : goal.loop-n-init
unfolding pops
loop-n-init c = (omega arith, omega arith, search rules, ap (λ (l : List ℕ). pop (tags_of l)) c.inside-i.ensures.1)

pub returns-in-End : goal.returns-in-End
returns-in-End c =
    let s = c.args.text.now in
    let l = c.loop-n in
    let w = c.in-End.ensures in
    let e : tags_left s (length s) ≡ [] = left_end (λ r. r) s (length s) (search rules) in
    behind s c.args.at (length s)
    (e ∙ sym (pops_none (suc l.d)) ∙ ap (pops (suc l.d)) (sym w.tags) ∙ l.invariant.3)
    (search rules)
    (search rules)

pub returns-then-d-eq0 : goal.returns-then-d-eq0
unfolding pops pop closed
returns-then-d-eq0 c =
    let s = c.args.text.now in
    let l = c.loop-n in
    let w = c.in-Close.ensures in
    behind s c.args.at c.in-Close.n
    (ap (λ (d : ℕ). pops d (closed (tags_left s c.in-Close.n))) (sym (ap suc c.if-d-eq0.true)) ∙ ap (pops (suc l.d)) (sym w.tags) ∙ l.invariant.3)
    (omega (arith, w.place))
    w.place.1

pub loop-n-smaller-in-Close : goal.loop-n-smaller-in-Close
loop-n-smaller-in-Close c =
    let s = c.args.text.now in
    let l = c.loop-n in
    let w = c.in-Close.ensures in
    omega (arith, w.place)

pub loop-n-preserved-in-Close : goal.loop-n-preserved-in-Close
unfolding pops pop closed
loop-n-preserved-in-Close c =
    let s = c.args.text.now in
    let l = c.loop-n in
    let w = c.in-Close.ensures in
    let one : suc (l.d - 1) ≡ l.d = omega arith in (
      omega (arith, w.place),
      w.place.1,
      omega (arith, w.place),
      ap (λ (d : ℕ). pops d (tags_left s c.in-Close.n)) one ∙ ap (pops (suc l.d)) (sym w.tags) ∙ l.invariant.3,
    )

pub loop-n-smaller-in-Open : goal.loop-n-smaller-in-Open
loop-n-smaller-in-Open c =
    let s = c.args.text.now in
    let l = c.loop-n in
    let w = c.in-Open.ensures in
    omega (arith, w.place)

pub loop-n-preserved-in-Open : goal.loop-n-preserved-in-Open
unfolding pops pop opened
loop-n-preserved-in-Open c =
    let s = c.args.text.now in
    let l = c.loop-n in
    let w = c.in-Open.ensures in (
      omega (arith, w.place),
      w.place.1,
      omega (arith, w.place),
      ap (λ (d : ℕ). pops (suc d) (tags_left s c.in-Open.n)) (add-one l.d) ∙ ap (pops (suc l.d)) (sym w.tags) ∙ l.invariant.3,
    )

pub loop-n-smaller : goal.loop-n-smaller
loop-n-smaller c =
    let s = c.args.text.now in
    let l = c.loop-n in
    let w = c.in-Empty.ensures in
    omega (arith, w.place)

pub loop-n-preserved : goal.loop-n-preserved
unfolding pops pop alone
loop-n-preserved c =
    let s = c.args.text.now in
    let l = c.loop-n in
    let w = c.in-Empty.ensures in
    (omega (arith, w.place), w.place.1, omega (arith, w.place), ap (pops (suc l.d)) (sym w.tags) ∙ l.invariant.3)
