-- `list_constructs` meets its contract: what the scan answers, or none.
use Rattle.volume.proofs.Partitions.{lists_filled}
use Rattle.volume.proofs.filling.list_constructs.Goals as goal

pub returns : goal.returns
returns c = lists_filled c.args.size c.args.partition.list.now c.args.partition.store.now c.args.table.now _ c.scan.result _ c.scan.ensures c.unwrap_or.ensures
