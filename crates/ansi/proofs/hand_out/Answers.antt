-- `hand_out` meets its contract: the rows are put whole, or not at all.
use lib.ListN.{take}
use Rattle.std.proofs.lemmas.Result.{err_from_is_err_and}
use Rattle.ansi.proofs.FileBytes.{hands_out, hands_none}
use Rattle.ansi.proofs.hand_out.Goals as goal

pub returns : goal.returns
returns c = hands_out (take c.args.end c.args.text.now) c.part-rows.result.now c.args.out.now _ c.part-rows.ensures c.put.ensures c.in_ok-put.field-0 c.in_ok-put.was

pub returns-in_err-put : goal.returns-in_err-put
returns-in_err-put c =
    let p = err_from_is_err_and c.from_residual.result c.from_residual.ensures.1 in
    rw (p.1, p.2) (hands_none (take c.args.end c.args.text.now) c.part-rows.result.now c.args.out.now _ c.part-rows.ensures c.put.ensures _ c.in_err-put.was)
