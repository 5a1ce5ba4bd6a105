-- `tape::check` meets its contract: the totals decide, with the tests of the store's length.
use Rattle.std.proofs.Common.{sym, ◌∙◌, arith, length}
use borrow.Author.Tests.{le-leb, lt-leb, eq-eqb, ne_eqb}
use Rattle.tape.proofs.Counting.{counted_by}
use Rattle.tape.proofs.check.Goals as goal

pub returns-in-Some : goal.returns-in-Some
returns-in-Some c =
    sym (counted_by c.args.list.now c.args.store.now c.sum_up.ensures c.in-Some.is
    ∙ simp (eq-eqb _ _ c.if-totals-store.true, le-leb (length c.args.store.now) 16777216 (omega arith)))

pub returns-in_default : goal.returns-in_default
returns-in_default c =
    sym (counted_by c.args.list.now c.args.store.now c.sum_up.ensures c.in-Some.is
    ∙ simp (eq-eqb _ _ c.if-totals-store.true, lt-leb (length c.args.store.now) 16777216 (omega arith)))

pub returns-in_default-2 : goal.returns-in_default-2
returns-in_default-2 c =
    sym (counted_by c.args.list.now c.args.store.now c.sum_up.ensures c.in-Some.is
    ∙ simp (ne_eqb _ _ c.if-totals-store.false))

pub returns-in_default-3 : goal.returns-in_default-3
returns-in_default-3 c = sym (counted_by c.args.list.now c.args.store.now c.sum_up.ensures c.in_default.is)
