-- `klapouzen_decode` meets its contract: what decoding answers, and the buffer after.
use Rattle.api.proofs.Naming.{put_out}
use Rattle.api.proofs.names.klapouzen_decode.Goals as goal

pub returns : goal.returns
returns c = put_out c.decode.ensures c.tell_count.ensures
