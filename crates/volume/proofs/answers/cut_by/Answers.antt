-- `cut_by` meets its contract: the search over the tables.
use Rattle.volume.proofs.Answering.{cuts_by}
use Rattle.volume.proofs.answers.cut_by.Goals as goal

pub returns : goal.returns
returns c = cuts_by _ c.chain-k.result c.chain-k.ensures c.first_cut.result c.put_beginnings.ensures c.first_cut.ensures
