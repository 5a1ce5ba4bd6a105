-- `klapouzen_verdict` meets its contract: the first break, or none, and demand 3 of that.
use Rattle.std.specs.Prelude.{None, Option, Some}
use mathlib.Core.Path.{◌≡◌, refl, ap, ◌∙◌}
use lib.ListN.{take, get_or}
use Rattle.volume.specs.declared.judge.Break.{Break}
use Rattle.volume.specs.Steps.{break_of}
use Rattle.volume.specs.AnswerSteps.{judged}
use Rattle.volume.proofs.TextFronts.{verdict_front}
use Rattle.api.specs.Volumes.{break_numbers}
use Rattle.api.specs.Steps.{verdict_numbers}
use Rattle.api.proofs.Demands.{judges_out}
use Rattle.api.proofs.Showing.{by_answer, shown, not_shown}
use Rattle.api.proofs.Fronts.{side_answered, side_told}
use Rattle.api.proofs.volumes.klapouzen_verdict.Goals as goal

numbers_lem : (b : Option Break) → (take 2 (verdict_numbers b) ≡ break_numbers (break_of b)) × (get_or (verdict_numbers b) 2 0 ≡ 0) × (get_or (verdict_numbers b) 3 0 ≡ 0)
numbers_lem None = (refl, refl, refl)
numbers_lem (Some b) = (refl, refl, refl)

pub returns : goal.returns
returns c =
    let a = c.args in
    by_answer c.find_break-found.result c.tell.ensures
    (λ b e p.
    let n = numbers_lem b in
    side_answered p.0 (judges_out (shown _ (ap judged e ∙ c.find_break-found.ensures.answers) p.0 (rw p.1 n.0))) (rw p.1 n.1) (rw p.1 n.2))
    (λ r e q.
    let w = ap judged e ∙ c.find_break-found.ensures.answers in
    side_told r (verdict_front a.index_list.now a.index_store.now a.data_list.now a.data_store.now) w q.0 (rw q.1.1) (rw q.1.1) (judges_out (not_shown r w q.0 (rw q.1.1))))
