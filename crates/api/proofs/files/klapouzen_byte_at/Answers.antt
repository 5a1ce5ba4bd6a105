-- `klapouzen_byte_at` meets its contract: where the byte is.
use mathlib.Core.Path.{◌∙◌}
use Rattle.api.proofs.Showing.{by_answer, shown, not_shown}
use Rattle.api.proofs.files.klapouzen_byte_at.Goals as goal

pub returns : goal.returns
returns c =
    by_answer c.byte_at-byte.result c.tell.ensures (λ v e p. shown v (e ∙ c.byte_at-byte.ensures) p.0 p.1) (λ r e q. not_shown r (e ∙ c.byte_at-byte.ensures) q.0 q.1.1)
