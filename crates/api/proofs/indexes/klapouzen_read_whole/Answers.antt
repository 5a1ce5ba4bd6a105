-- `klapouzen_read_whole` meets its contract: what the reader answers, in numbers.
use mathlib.Core.Path.{sym, subst, ◌∙◌, ap}
use lib.ListN.{length}
use Rattle.index.specs.Index.{summary}
use Rattle.index.specs.Steps.{means, ReadsIndex}
use Rattle.index.proofs.Fronts.{index_front}
use Rattle.index_files.proofs.Mapped.{mapped_refused}
use Rattle.index_files.proofs.Fronts.{whole_front}
use Rattle.api.proofs.Showing.{by_answer, not_told}
use Rattle.api.proofs.Headers.{says_index}
use Rattle.api.proofs.Fronts.{with_answer, with_refusal}
use Rattle.api.proofs.indexes.klapouzen_read_whole.Goals as goal

pub returns : goal.returns
returns c =
    let s = c.args.text.now in
    let reads = c.read_whole-header.ensures.reads in
    let holds = c.read_whole-header.ensures.holds in
    by_answer c.read_whole-header.result c.tell.ensures
    (λ h e p. with_answer p.0 (record { answers = says_index s _ h (subst (ReadsIndex s _) (sym e) reads) p.0 p.1; stored = holds }) (rw p.1))
    (λ r e q.
    let w = mapped_refused summary _ _ (ap (means s) e ∙ reads.answers) in
    with_refusal r (whole_front s _ (index_front s _ c.args.letter c.args.block) (length c.args.entries.now) (length c.args.rows.now)) w q.0 (rw q.1.1)
    (record { answers = not_told r w q.0 (rw q.1.1); stored = holds }))
