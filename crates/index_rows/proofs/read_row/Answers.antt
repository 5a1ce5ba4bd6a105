-- `read_row` meets its contract. Invariant: the places noted so far and what is left of the row.
use mathlib.Core.Path.{refl, ap, ◌∙◌, subst}
use native.Mathlib.Omega.{arith}
use Rattle.elements.specs.declared.starts.Next.TheVariants.{End, Close, Opens}
use Rattle.elements.specs.TagSteps.{FirstOf}
use Rattle.elements.specs.StartSteps.{NextStart}
use Rattle.elements.proofs.Plain.{inner_first}
use Rattle.elements.proofs.Rows.{row_end, row_close, behind_end, behind_close, behind_along}
use Rattle.index_names.specs.Names.{names, number_in}
use Rattle.index_rows.proofs.Placing.{noting_none, noting_all, noting_more}
use Rattle.index_rows.proofs.read_row.Goals as goal

pub loop-places-init : goal.loop-places-init
loop-places-init c = (omega arith, refl, noting_none c.args.text.now c.args.kind c.args.at)

pub returns-in-End : goal.returns-in-End
returns-in-End c =
    let a = c.args in
    let s = a.text.now in
    let l = c.loop-places in
    let t : NextStart s l.i End = subst (NextStart s l.i) c.in-End.is c.next_start.ensures in (
      noting_all s a.kind a.at l.i l.places (row_end t) l.invariant.2,
      behind_along l.invariant.0 l.invariant.1 (behind_end t),
    )

pub returns-in-Close : goal.returns-in-Close
returns-in-Close c =
    let a = c.args in
    let s = a.text.now in
    let l = c.loop-places in
    let t : NextStart s l.i (Close c.in-Close.n) = subst (NextStart s l.i) c.in-Close.is c.next_start.ensures in (
      noting_all s a.kind a.at l.i l.places (row_close t) l.invariant.2,
      behind_along l.invariant.0 l.invariant.1 (behind_close t),
    )

pub lying-requires : goal.lying-requires
lying-requires c =
    let s = c.args.text.now in
    let l = c.loop-places in
    let x = c.in-Opens.h in
    let o : NextStart s l.i (Opens x) = subst (NextStart s l.i) c.in-Opens.is c.next_start.ensures in
    o.shape.name.inside

pub loop-places-smaller-then-h : goal.loop-places-smaller-then-h
loop-places-smaller-then-h c =
    let a = c.args in
    let s = a.text.now in
    let l = c.loop-places in
    let x = c.in-Opens.h in
    let o : NextStart s l.i (Opens x) = subst (NextStart s l.i) c.in-Opens.is c.next_start.ensures in
    let first : FirstOf s l.i x.at x.next = o.next c.if-h.true in
    omega (arith, first.place, first.after)

pub loop-places-preserved-then-h : goal.loop-places-preserved-then-h
loop-places-preserved-then-h c =
    let a = c.args in
    let s = a.text.now in
    let l = c.loop-places in
    let x = c.in-Opens.h in
    let o : NextStart s l.i (Opens x) = subst (NextStart s l.i) c.in-Opens.is c.next_start.ensures in
    let first : FirstOf s l.i x.at x.next = o.next c.if-h.true in (
      omega (arith, l.invariant.0, first.place, first.after),
      l.invariant.1 ∙ first.tags_kept,
      noting_more s a.kind c.number_in-j.result l.places c.note.new.places first (c.number_in-j.ensures ∙ ap (number_in (names a.kind)) (c.lying.ensures ∙ o.shape.name.part)) c.note.ensures a.at l.invariant.2,
    )

pub loop-places-smaller : goal.loop-places-smaller
loop-places-smaller c =
    let a = c.args in
    let s = a.text.now in
    let l = c.loop-places in
    let x = c.in-Opens.h in
    let o : NextStart s l.i (Opens x) = subst (NextStart s l.i) c.in-Opens.is c.next_start.ensures in
    let first : FirstOf s l.i x.at c.leave-i.result = inner_first o c.if-h.false c.leave-i.ensures in
    omega (arith, first.place, first.after)

pub loop-places-preserved : goal.loop-places-preserved
loop-places-preserved c =
    let a = c.args in
    let s = a.text.now in
    let l = c.loop-places in
    let x = c.in-Opens.h in
    let o : NextStart s l.i (Opens x) = subst (NextStart s l.i) c.in-Opens.is c.next_start.ensures in
    let first : FirstOf s l.i x.at c.leave-i.result = inner_first o c.if-h.false c.leave-i.ensures in (
      omega (arith, l.invariant.0, first.place, first.after),
      l.invariant.1 ∙ first.tags_kept,
      noting_more s a.kind c.number_in-j.result l.places c.note.new.places first (c.number_in-j.ensures ∙ ap (number_in (names a.kind)) (c.lying.ensures ∙ o.shape.name.part)) c.note.ensures a.at l.invariant.2,
    )
