-- `klapouzen_read_rows` meets its contract: how many rows there are, and the buffer that they were put into.
use lib.ListN.{length}
use Rattle.index.proofs.Fronts.{index_front}
use Rattle.index_files.proofs.Fronts.{rows_front}
use Rattle.api.proofs.Headers.{fills_out, counted_front}
use Rattle.api.proofs.indexes.klapouzen_read_rows.Goals as goal

pub returns : goal.returns
returns c =
    let s = c.args.text.now in
    let filled = c.rows-filled in
    let told = c.tell_number.ensures in
    record {
      fills = fills_out filled.ensures told;
      place = counted_front filled.result (rows_front s _ (index_front s _ c.args.letter c.args.block) (length c.args.rows.now) c.args.file) filled.ensures.says told c.front_of.ensures;
    }
