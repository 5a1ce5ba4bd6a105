-- `klapouzen_path` meets its contract: what the writer of the path answers, and the buffer after.
use Rattle.api.proofs.Naming.{delivered}
use Rattle.api.proofs.names.klapouzen_path.Goals as goal

pub returns : goal.returns
returns c = delivered c.path.ensures c.tell_count.ensures
