-- `add_numbers` meets its contract: the pieces one after the other.
use Rattle.slices.specs.Words.{bytes}
use Rattle.label_writer.specs.Text.{size_and_compression}
use Rattle.writing.proofs.Pieces.{grows_then}
use Rattle.label_writer.proofs.add_numbers.Goals as goal

pub returns : goal.returns
unfolding size_and_compression bytes
returns c = grows_then (grows_then (grows_then (grows_then c.add.ensures.grows c.add_number.ensures.grows) c.add-2.ensures.grows) c.add_word.ensures) c.add-3.ensures.grows
