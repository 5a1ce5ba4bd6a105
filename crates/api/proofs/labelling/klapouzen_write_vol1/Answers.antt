-- `klapouzen_write_vol1` meets its contract: what the writer answers; what it stored reads as the fields given.
use Rattle.api.proofs.ReadBack.{vol1_stored}
use Rattle.api.proofs.labelling.klapouzen_write_vol1.Goals as goal

pub returns : goal.returns
returns c = vol1_stored (record { written = c.write_vol1.result; writes = c.write_vol1.ensures; shows = c.tell_count.ensures })
