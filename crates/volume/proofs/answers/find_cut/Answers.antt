-- `find_cut` meets its contract: what the labels are refused for, or the cut of the volume that they give.
use Rattle.std.specs.Prelude.{Err, Ok}
use Rattle.std.proofs.lemmas.Result.{err_from_is_err_and}
use mathlib.Core.Path.{sym, ap, ◌∙◌}
use Rattle.label.specs.Steps.{fields_in, means}
use Rattle.verdict.specs.Rescue.{rescue}
use Rattle.volume.specs.Volume.{or_no_cut}
use Rattle.volume.proofs.Answering.{ask_refused, rescues, cut_found}
use Rattle.volume.proofs.answers.find_cut.Goals as goal

pub returns-in_err-label : goal.returns-in_err-label
returns-in_err-label c =
    let a = c.args in
    let p = err_from_is_err_and c.from_residual.result c.from_residual.ensures.1 in
    rw (p.1, p.2)
    (rescues a.index_list.now a.index_store.now a.data_list.now a.data_store.now _
    (ask_refused (λ v i d. or_no_cut (rescue v i d)) a.index_list.now a.index_store.now a.data_list.now a.data_store.now c.in_err-label.field-0.0
    (ap (means a.index_store.now) (sym c.in_err-label.was) ∙ c.check.ensures.says)))

pub returns : goal.returns
returns c =
    let a = c.args in
    rw c.ok_or.ensures.value (cut_found a.index_list.now a.index_store.now a.data_list.now a.data_store.now (λ i. (c.type_inv.index_list i).fits) (λ i. (c.type_inv.data_list i).fits)
    (fields_in a.index_store.now c.in_ok-label.label) (ap (means a.index_store.now) (sym c.in_ok-label.was) ∙ c.check.ensures.says) c.reader_of.result c.reader_of.ensures
    c.rescue_with.result c.rescue_with.ensures)
