-- `read_rows` meets its contract. Invariant: the rows read so far and those of the rest of the row are all.
use mathlib.Core.Path.{◌≡◌, refl, ap, sym, ◌∙◌, subst}
use Rattle.std.proofs.Common.{inl, inr}
use Rattle.xml.specs.Tree.{none}
use Prim.Native.Nat.{◌+◌, ◌*◌, ◌≤◌}
use native.Mathlib.Omega.{arith}
use lib.ListN.{length, take}
use lib.Seq.{length-sets}
use Rattle.elements.specs.declared.tags.Tag.TheVariants.{Open, Empty}
use Rattle.elements.specs.declared.starts.Next.TheVariants.{Opens}
use Rattle.elements.specs.Reading.{forest_at}
use Rattle.elements.specs.TagSteps.{NextTag, FirstOf}
use Rattle.elements.specs.StartSteps.{NextStart}
use Rattle.elements.proofs.Rows.{row_end, row_close, row_past, first_open, first_empty, children_open, children_empty}
use Rattle.extents.specs.Rows.{rows_of, five}
use Rattle.index_values.specs.Tests.{rows_in, row_of}
use Rattle.index_values.proofs.Shapes.{start_node}
use Rattle.index_values.proofs.RowTable.{rows_read, rows_too_many, rows_none, rows_go}
use borrow.Author.Rules.{rules}
use Rattle.index_values.proofs.tests.read_rows.Goals as goal

pub loop-h-init : goal.loop-h-init
unfolding rows_of
loop-h-init c = (refl, search rules, c.requires, refl)

pub returns-in-End : goal.returns-in-End
returns-in-End c =
    let s = c.args.text.now in
    let l = c.loop-h in
    let none_left : forest_at s l.i ≡ none =
    elim c.in-End.is [
      | inl e ↦ row_end (subst (NextStart s l.i) e c.next_start.ensures)
      | inr (n, e) ↦ row_close (subst (NextStart s l.i) e c.next_start.ensures)
    ] in
    rows_read (rows_in (forest_at s c.args.at)) l.out l.n l.invariant.1 (search rules) (l.invariant.3 ∙ rows_none s l.i (rows_of (take (l.n * 5) l.out)) none_left)

pub returns-then-n-eq1024 : goal.returns-then-n-eq1024
returns-then-n-eq1024 c =
    let s = c.args.text.now in
    let l = c.loop-h in
    let x = c.in-Opens.h in
    let o : NextStart s l.i (Opens x) = subst (NextStart s l.i) c.in-Opens.is c.next_start.ensures in
    rows_too_many s (rows_in (forest_at s c.args.at)) l.i x.at (start_node o).0 (start_node o).1 l.out l.n c.if-n-eq1024.true (search rules) l.invariant.3

pub loop-h-smaller-then-h : goal.loop-h-smaller-then-h
loop-h-smaller-then-h c =
    let s = c.args.text.now in
    let l = c.loop-h in
    let x = c.in-Opens.h in
    let o : NextStart s l.i (Opens x) = subst (NextStart s l.i) c.in-Opens.is c.next_start.ensures in
    let tag : NextTag s l.i (Empty x.at) = rw c.if-h.true at o.tag in
    let first : FirstOf s l.i x.at x.at = first_empty tag in
    omega (arith, first.place, first.after)

pub loop-h-preserved-then-h : goal.loop-h-preserved-then-h
loop-h-preserved-then-h c =
    let s = c.args.text.now in
    let l = c.loop-h in
    let x = c.in-Opens.h in
    let o : NextStart s l.i (Opens x) = subst (NextStart s l.i) c.in-Opens.is c.next_start.ensures in
    let tag : NextTag s l.i (Empty x.at) = rw c.if-h.true at o.tag in
    let first : FirstOf s l.i x.at x.at = first_empty tag in
    let b : l.n * 5 + 5 ≤ length l.out = omega (arith, l.invariant.0, l.invariant.1, l.invariant.2, c.if-n-eq1024.false) in (
      ap length c.put_row.ensures.0 ∙ length-sets l.out (l.n * 5) (five (row_of (forest_at s (length s)))) ∙ l.invariant.0,
      omega (arith, l.invariant.1, c.if-n-eq1024.false),
      l.invariant.2,
      rows_go s (rows_in (forest_at s c.args.at)) l.i x.at _ first.row l.out _ l.n (length s) b (row_past s (length s) (omega arith) ∙ sym (children_empty tag)) c.put_row.ensures.0 l.invariant.3,
    )

pub loop-h-smaller : goal.loop-h-smaller
loop-h-smaller c =
    let s = c.args.text.now in
    let l = c.loop-h in
    let x = c.in-Opens.h in
    let o : NextStart s l.i (Opens x) = subst (NextStart s l.i) c.in-Opens.is c.next_start.ensures in
    let tag : NextTag s l.i (Open x.at) = rw c.if-h.false at o.tag in
    let first : FirstOf s l.i x.at c.put_row-i.result = first_open tag c.put_row-i.ensures.1 in
    omega (arith, first.place, first.after)

pub loop-h-preserved : goal.loop-h-preserved
loop-h-preserved c =
    let s = c.args.text.now in
    let l = c.loop-h in
    let x = c.in-Opens.h in
    let o : NextStart s l.i (Opens x) = subst (NextStart s l.i) c.in-Opens.is c.next_start.ensures in
    let tag : NextTag s l.i (Open x.at) = rw c.if-h.false at o.tag in
    let first : FirstOf s l.i x.at c.put_row-i.result = first_open tag c.put_row-i.ensures.1 in
    let b : l.n * 5 + 5 ≤ length l.out = omega (arith, l.invariant.0, l.invariant.1, l.invariant.2, c.if-n-eq1024.false) in (
      ap length c.put_row-i.ensures.0 ∙ length-sets l.out (l.n * 5) (five (row_of (forest_at s x.at))) ∙ l.invariant.0,
      omega (arith, l.invariant.1, c.if-n-eq1024.false),
      l.invariant.2,
      rows_go s (rows_in (forest_at s c.args.at)) l.i x.at _ first.row l.out _ l.n x.at b (sym (children_open tag)) c.put_row-i.ensures.0 l.invariant.3,
    )
