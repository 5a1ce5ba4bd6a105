-- `constructs::scan` meets its contract: the check says whether there is a tape, and the walk fills the table.
use Rattle.std.proofs.Common.{sym, ◌∙◌}
use Rattle.std.proofs.lemmas.Result.{err_from_is_err_and}
use Rattle.tape.proofs.Keeping.{present}
use Rattle.tape.proofs.Passing.{encoded}
use Rattle.constructs.proofs.Filling.{scans_found, scans_refused}
use Rattle.constructs.proofs.scan.Goals as goal

pub returns-in_err-check : goal.returns-in_err-check
returns-in_err-check c =
    let a = c.args in
    let p = err_from_is_err_and c.from_residual.result c.from_residual.ensures.1 in
    rw (p.1, p.2) (scans_refused a.block_size a.list.now a.store.now a.table.now _ (sym c.in_err-check.was ∙ c.check.ensures))

pub fill-requires : goal.fill-requires
fill-requires c =
    let a = c.args in
    (_, encoded a.list.now a.store.now _ (present a.list.now a.store.now _ (λ i. (c.type_inv.list i).fits) (sym c.in_ok-check.was ∙ c.check.ensures)))

pub returns : goal.returns
returns c =
    let a = c.args in
    scans_found a.block_size c.fill.result a.list.now a.store.now a.table.now _ _ (present a.list.now a.store.now _ (λ i. (c.type_inv.list i).fits) (sym c.in_ok-check.was ∙ c.check.ensures)) c.fill.ensures
