-- `klapouzen_index` meets its contract: the construct's place and its index's header, in numbers.
use mathlib.Core.Path.{sym, subst, ap, ◌∙◌}
use Rattle.volume.specs.ChosenSteps.{chosen_by, Chooses}
use Rattle.volume.proofs.TextFronts.{chosen_front}
use Rattle.api.proofs.Headers.{says_construct}
use Rattle.api.proofs.Showing.{by_answer, not_told}
use Rattle.api.proofs.Fronts.{with_answer, with_refusal}
use Rattle.api.proofs.indexes.klapouzen_index.Goals as goal

pub returns : goal.returns
returns c =
    let s = c.args.store.now in
    by_answer c.read_construct-found.result c.tell.ensures
    (λ x e p. with_answer p.0 (says_construct s _ x (subst (Chooses s _) (sym e) c.read_construct-found.ensures) p.0 p.1) (rw p.1))
    (λ r e q.
    let w = ap (chosen_by s) e ∙ c.read_construct-found.ensures.answers in
    with_refusal r (chosen_front _ c.args.letter c.args.number c.args.list.now s) w q.0 (rw q.1.1) (not_told r w q.0 (rw q.1.1)))
