-- `add` meets its contract: what was put is added.
use mathlib.Core.Path.{refl}
use Rattle.writing.proofs.Pieces.{grown}
use Rattle.writing.proofs.Text.add.Goals as goal

pub returns : goal.returns
returns c = grown refl c.add-self.ensures
