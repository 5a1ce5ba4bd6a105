-- `EachRow::len` meets its contract. Invariant: those counted and those of the rest of the row are all.
use mathlib.Core.Path.{ap}
use native.Mathlib.Omega.{arith}
use lib.ListN.{length}
use Rattle.index_files.proofs.Meeting.{rows_over}
use Rattle.index_files.proofs.Asking.{rows_counted}
use borrow.Author.Rules.{rules}
use Rattle.index_files.proofs.extent_rows.EachRow.len.Goals as goal

pub loop-child-init : goal.loop-child-init
loop-child-init c = (omega arith, omega arith)

pub returns : goal.returns
returns c =
    let s = c.args.self.now.text.now in
    let l = c.loop-child in
    let e = c.in_default.ensures in
    let z = ap length (rows_over s l.at e) in
    omega (arith, z, l.invariant.1)

pub overflow_add-n : goal.overflow_add-n
overflow_add-n c =
    let s = c.args.self.now.text.now in
    let l = c.loop-child in
    let f = c.in-Some.ensures in
    let p = f.place in
    search rules

pub loop-child-smaller : goal.loop-child-smaller
loop-child-smaller c =
    let f = c.in-Some.ensures in
    omega (arith, f.place, f.after)

pub loop-child-preserved : goal.loop-child-preserved
loop-child-preserved c =
    let s = c.args.self.now.text.now in
    let l = c.loop-child in
    let f = c.in-Some.ensures in
    (omega (arith, f.place, f.after, l.invariant.0), omega (arith, rows_counted s l.at f, l.invariant.1))
