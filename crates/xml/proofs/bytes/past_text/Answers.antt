-- `past_text` meets its contract: the kinds that it skips are one class of bytes.
use Rattle.xml.proofs.KindTable.{kind_text}
use Rattle.xml.proofs.Past.{past_same}
use Rattle.xml.proofs.bytes.past_text.Goals as goal

pub returns : goal.returns
returns c = past_same kind_text c.skip.ensures
