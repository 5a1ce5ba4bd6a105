-- `fill` meets its contract: both tables, of one partition.
use mathlib.Core.Path.{refl}
use Rattle.volume.proofs.Partitions.{fills_of}
use Rattle.volume.proofs.filling.Tables.fill.Goals as goal

pub returns : goal.returns
returns c = fills_of _ _ _ _ _ _ refl c.list_constructs-count.ensures c.fill_reach-elements.ensures
