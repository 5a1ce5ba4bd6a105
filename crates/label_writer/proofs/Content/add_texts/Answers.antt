-- `add_texts` meets its contract: the pieces one after the other.
use Rattle.slices.specs.Words.{bytes}
use Rattle.label_writer.specs.Text.{texts}
use Rattle.writing.proofs.Pieces.{grows_then}
use Rattle.label_writer.proofs.Content.add_texts.Goals as goal

pub returns : goal.returns
unfolding texts bytes
returns c = grows_then (grows_then (grows_then (grows_then (grows_then (grows_then c.add.ensures.grows c.add_escaped.ensures) c.add-2.ensures.grows) c.add-3.ensures.grows) c.add-4.ensures.grows) c.add-5.ensures.grows) c.add-6.ensures.grows
