-- `klapouzen_check_labels` meets its contract: what the check answers, in numbers.
use mathlib.Core.Path.{ap, sym, ◌∙◌}
use Rattle.label.specs.Steps.{means}
use Rattle.label.proofs.Places.{said_inside, said_places}
use Rattle.api.proofs.Showing.{by_answer, told, not_told}
use Rattle.api.proofs.Saying.{says_on_volume}
use Rattle.labels.proofs.TextFronts.{labels_front}
use Rattle.api.proofs.Fronts.{side_answered, side_told}
use Rattle.api.proofs.labelling.klapouzen_check_labels.Goals as goal

pub returns : goal.returns
returns c =
    let a = c.args in
    let s = a.index_store.now in
    by_answer c.check-label.result c.tell.ensures
    (λ f e p.
    side_answered p.0
    (told _ (ap (means s) e ∙ c.check-label.ensures.says) p.0 (says_on_volume s f (said_inside (sym e) c.check-label.ensures) (said_places (sym e) c.check-label.ensures) p.1))
    (rw p.1) (rw p.1))
    (λ r e q.
    let w = ap (means s) e ∙ c.check-label.ensures.says in
    side_told r (labels_front a.index_list.now a.index_store.now a.data_list.now a.data_store.now) w q.0 (rw q.1.1) (rw q.1.1) (not_told r w q.0 (rw q.1.1)))
