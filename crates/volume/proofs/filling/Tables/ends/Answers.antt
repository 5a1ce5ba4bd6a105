-- `ends` meets its contract: where there is a construct, the last one's end says it.
use mathlib.Core.Path.{refl, ap, ◌∙◌}
use Rattle.constructs.specs.TableSteps.{bounds_in}
use Rattle.volume.proofs.Partitions.{ends_last}
use Rattle.volume.proofs.filling.Tables.ends.Goals as goal

pub returns-then-self-ne0 : goal.returns-then-self-ne0
returns-then-self-ne0 c =
    let x = c.args.self.now in
    ends_last x.constructs.now x.count x.elements c.construct.result _ c.if-self-ne0.true (c.construct.ensures ∙ ap (bounds_in x.constructs.now) c.last.ensures) refl
