-- `klapouzen_read_index` meets its contract: what the reader answers, in numbers.
use mathlib.Core.Path.{sym, subst, ◌∙◌, ap}
use Rattle.index.specs.Index.{summary}
use Rattle.index.specs.Steps.{means, ReadsIndex}
use Rattle.index.proofs.Fronts.{index_front}
use Rattle.index_files.proofs.Mapped.{mapped_refused}
use Rattle.api.proofs.Showing.{by_answer, not_told}
use Rattle.api.proofs.Headers.{says_index}
use Rattle.api.proofs.Fronts.{with_answer, with_refusal}
use Rattle.api.proofs.indexes.klapouzen_read_index.Goals as goal

pub returns : goal.returns
returns c =
    let s = c.args.text.now in
    by_answer c.read_index-header.result c.tell.ensures
    (λ h e p. with_answer p.0 (says_index s _ h (subst (ReadsIndex s _) (sym e) c.read_index-header.ensures) p.0 p.1) (rw p.1))
    (λ r e q.
    let w = mapped_refused summary _ _ (ap (means s) e ∙ c.read_index-header.ensures.answers) in
    with_refusal r (index_front s _ c.args.letter c.args.block) w q.0 (rw q.1.1) (not_told r w q.0 (rw q.1.1)))
