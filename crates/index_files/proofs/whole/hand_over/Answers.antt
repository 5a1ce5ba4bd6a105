-- `hand_over` meets its contract: two copies.
use Rattle.index_files.proofs.whole.hand_over.Goals as goal

pub returns : goal.returns
returns c = record { entries = c.copy.ensures; rows = c.copy-2.ensures }
