-- `brief_at` meets its contract: what is read of the text there.
use mathlib.Core.List.{List}
use mathlib.Core.Path.{ap, ◌∙◌}
use Prim.Native.Nat.{ℕ}
use Rattle.index.specs.Index.{index_of}
use Rattle.volume.specs.Volume.{soundly}
use Rattle.volume.specs.Steps.{link_of}
use Rattle.volume.specs.Readers.{given_to}
use Rattle.volume.proofs.sound.Reader.brief_at.Goals as goal

pub returns : goal.returns
returns c =
    c.brief.ensures ∙ ap (λ (x : List ℕ). link_of (soundly (index_of (given_to c.args.self.now) c.args.letter c.args.place.first.0 x))) c.text_at.ensures
