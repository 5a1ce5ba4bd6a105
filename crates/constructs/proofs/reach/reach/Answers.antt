-- `reach` meets its contract: the lengths are put into the table, and turned into reaches there.
use Rattle.std.proofs.Common.{sym, ◌∙◌, arith}
use Rattle.std.proofs.lemmas.Result.{err_from_is_err_and}
use Rattle.tape.proofs.Keeping.{present}
use Rattle.tape.proofs.Passing.{encoded}
use Rattle.constructs.proofs.Reaching.{small_lengths, reaches_found, reaches_short, reaches_refused}
use Rattle.constructs.proofs.reach.reach.Goals as goal

pub returns-in_err-count : goal.returns-in_err-count
returns-in_err-count c =
    let a = c.args in
    let p = err_from_is_err_and c.from_residual.result c.from_residual.ensures.1 in
    rw (p.1, p.2) (reaches_refused a.block_size a.table.now a.list.now a.store.now _ (sym c.in_err-count.was ∙ c.check.ensures))

pub returns-then-table-count : goal.returns-then-table-count
returns-then-table-count c =
    let a = c.args in
    let p = present a.list.now a.store.now _ (λ i. (c.type_inv.list i).fits) (sym c.in_ok-count.was ∙ c.check.ensures) in
    reaches_short a.block_size a.table.now a.list.now a.store.now _ p c.if-table-count.true

pub put_lengths-requires : goal.put_lengths-requires
put_lengths-requires c =
    let a = c.args in
    let p = present a.list.now a.store.now _ (λ i. (c.type_inv.list i).fits) (sym c.in_ok-count.was ∙ c.check.ensures) in
    (_, encoded a.list.now a.store.now _ p, c.if-table-count.false)

pub extend-requires : goal.extend-requires
extend-requires c =
    let a = c.args in
    let p = present a.list.now a.store.now _ (λ i. (c.type_inv.list i).fits) (sym c.in_ok-count.was ∙ c.check.ensures) in
    (omega (arith, c.put_lengths.auto.table), rw (c.put_lengths.ensures p.tape p.encodes) (small_lengths a.table.now a.list.now a.store.now _ p c.if-table-count.false))

pub returns : goal.returns
returns c =
    let a = c.args in
    let p = present a.list.now a.store.now _ (λ i. (c.type_inv.list i).fits) (sym c.in_ok-count.was ∙ c.check.ensures) in
    rw (c.extend.ensures, c.put_lengths.ensures p.tape p.encodes) (reaches_found a.table.now a.list.now a.store.now _ p c.if-table-count.false a.block_size)
