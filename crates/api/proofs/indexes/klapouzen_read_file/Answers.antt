-- `klapouzen_read_file` meets its contract: what the reader answers, in numbers.
use mathlib.Core.Path.{sym, subst, ◌∙◌, ap}
use Rattle.index.proofs.Fronts.{index_front}
use Rattle.index_files.specs.AskedSteps.{ReadsFile, file_answered, shown}
use Rattle.index_files.proofs.Mapped.{mapped_refused}
use Rattle.index_files.proofs.Fronts.{file_front}
use Rattle.api.proofs.Showing.{by_answer, not_told}
use Rattle.api.proofs.Headers.{says_file}
use Rattle.api.proofs.Fronts.{with_answer, with_refusal}
use Rattle.api.proofs.indexes.klapouzen_read_file.Goals as goal

pub returns : goal.returns
returns c =
    let s = c.args.text.now in
    by_answer c.file-head.result c.tell.ensures
    (λ h e p. with_answer p.0 (says_file s _ _ h (subst (ReadsFile s _ _) (sym e) c.file-head.ensures) p.0 p.1) (rw p.1))
    (λ r e q.
    let w = mapped_refused shown _ _ (ap (file_answered s) e ∙ c.file-head.ensures.says) in
    with_refusal r (file_front s _ (index_front s _ c.args.letter c.args.block) c.args.file) w q.0 (rw q.1.1) (not_told r w q.0 (rw q.1.1)))
