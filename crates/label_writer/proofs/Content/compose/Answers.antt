-- `compose` meets its contract: the parts one after the other.
use Rattle.slices.specs.Words.{bytes}
use Rattle.label_writer.specs.Text.{text_front, text_end, label_text}
use Rattle.writing.proofs.Pieces.{grows_then}
use Rattle.xml.specs.Bytes.{declaration}
use Rattle.label_writer.proofs.Content.compose.Goals as goal

pub returns : goal.returns
unfolding label_text text_front text_end declaration bytes
returns c = grows_then (grows_then (grows_then (grows_then c.add.ensures.grows c.add_texts.ensures) c.add_letters.ensures) c.add_numbers.ensures) c.add-2.ensures.grows
