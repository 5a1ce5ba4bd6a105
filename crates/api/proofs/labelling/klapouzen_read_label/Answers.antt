-- `klapouzen_read_label` meets its contract: what the reader answers, in numbers.
use mathlib.Core.Path.{ap, sym, ◌∙◌}
use Rattle.label.specs.Steps.{means}
use Rattle.label.proofs.Places.{said_inside, said_places}
use Rattle.api.proofs.Showing.{by_answer, told, not_told}
use Rattle.api.proofs.Saying.{says_label}
use Rattle.label.proofs.Fronts.{label_front}
use Rattle.api.proofs.Fronts.{with_answer, with_refusal}
use Rattle.api.proofs.labelling.klapouzen_read_label.Goals as goal

pub returns : goal.returns
returns c =
    let s = c.args.text.now in
    by_answer c.read.result c.tell.ensures
    (λ f e p. with_answer p.0 (told _ (ap (means s) e ∙ c.read.ensures.says) p.0 (says_label s f (said_inside (sym e) c.read.ensures) (said_places (sym e) c.read.ensures) p.1)) (rw p.1))
    (λ r e q.
    let w = ap (means s) e ∙ c.read.ensures.says in
    with_refusal r (label_front s) w q.0 (rw q.1.1) (not_told r w q.0 (rw q.1.1)))
