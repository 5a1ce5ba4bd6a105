-- `klapouzen_read_vol1` meets its contract: what the reader answers.
use mathlib.Core.Path.{ap, ◌∙◌}
use Rattle.vol1.specs.Steps.{means_vol1}
use Rattle.api.proofs.Showing.{by_answer, shown, not_shown}
use Rattle.api.proofs.labelling.klapouzen_read_vol1.Goals as goal

pub returns : goal.returns
returns c =
    by_answer c.read_vol1.result c.tell.ensures (λ v e p. shown _ (ap (means_vol1 c.args.block.now) e ∙ c.read_vol1.ensures) p.0 p.1)
    (λ r e q. not_shown r (ap (means_vol1 c.args.block.now) e ∙ c.read_vol1.ensures) q.0 q.1.1)
