-- `rows` meets its contract: the refusal, or the rows of the file that is found.
use mathlib.Core.Path.{ap, sym, ◌∙◌}
use Rattle.std.proofs.lemmas.Result.{err_from_is_err_and}
use lib.ListN.{length}
use Rattle.index_files.specs.AskedSteps.{file_found}
use Rattle.index_files.specs.Filling.{with_room, rows_for}
use Rattle.index_files.proofs.Putting.{put_refused, put_as}
use Rattle.index_files.proofs.asked.rows.Goals as goal

pub returns-in_err-n : goal.returns-in_err-n
returns-in_err-n c =
    let p = err_from_is_err_and c.from_residual.result c.from_residual.ensures.1 in
    rw (p.1, p.2)
    (put_refused c.args.out.now _ (ap (rows_for (length c.args.out.now)) (ap (file_found c.args.text.now) (sym c.in_err-n.was) ∙ c.locate.ensures.file)))

pub returns : goal.returns
returns c =
    let w = c.in_ok-n.ensures {u = tt} in
    put_as
    (ap (with_room 5 (length c.args.out.now)) c.new.ensures ∙ ap (rows_for (length c.args.out.now)) w.file)
    c.put_rows.ensures
