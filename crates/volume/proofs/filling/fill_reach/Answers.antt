-- `fill_reach` meets its contract: what the table of reach answers, or none.
use Rattle.volume.proofs.Partitions.{reaches_filled}
use Rattle.volume.proofs.filling.fill_reach.Goals as goal

pub returns : goal.returns
returns c = reaches_filled c.args.size c.args.partition.list.now c.args.partition.store.now c.args.table.now _ c.reach.result c.reach.ensures _ c.unwrap_or.ensures
