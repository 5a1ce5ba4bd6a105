-- `brief` meets its contract: a refusal is no sound index.
use mathlib.Core.Path.{sym, ◌∙◌}
use Rattle.index.specs.Index.{index_of}
use Rattle.volume.specs.Readers.{given_to}
use Rattle.volume.proofs.Briefs.{link_found, link_refused}
use Rattle.volume.proofs.sound.Reader.brief.Goals as goal

pub returns-in_err-header : goal.returns-in_err-header
returns-in_err-header c =
    rw c.from_residual.ensures
    (link_refused (index_of (given_to c.args.self.now) c.args.letter c.args.block.0 c.args.text.now) c.args.text.now c.read_index.result c.read_index.ensures.answers
    (sym c.in_err-header.was ∙ c.ok.ensures.value))

pub returns : goal.returns
returns c =
    link_found (index_of (given_to c.args.self.now) c.args.letter c.args.block.0 c.args.text.now) c.args.text.now c.read_index.result c.in_ok-header.header
    c.read_index.ensures.answers (sym c.in_ok-header.was ∙ c.ok.ensures.value)
