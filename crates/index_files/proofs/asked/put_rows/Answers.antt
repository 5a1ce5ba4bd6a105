-- `put_rows` meets its contract: 10 before anything is written.
use native.Mathlib.Omega.{arith}
use Rattle.index_files.specs.EachRow.{rows_left}
use Rattle.index_files.proofs.Putting.{put_short, put_all}
use Rattle.index_files.proofs.asked.put_rows.Goals as goal

pub returns-then-out-n : goal.returns-then-out-n
returns-then-out-n c =
    put_short 5 (rows_left c.args.rows) c.len-n.result c.args.out.now c.len-n.ensures (omega (arith, c.if-out-n.true))

pub write_rows-requires : goal.write_rows-requires
write_rows-requires c = omega (arith, c.if-out-n.false, c.len-n.ensures)

pub returns : goal.returns
returns c =
    put_all 5 (rows_left c.args.rows) c.len-n.result c.args.out.now c.len-n.ensures (omega (arith, c.if-out-n.false)) _ c.write_rows.ensures
