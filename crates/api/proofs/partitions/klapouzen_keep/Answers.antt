-- `klapouzen_keep` meets its contract: the lengths that are kept, and what the bytes of those lengths are.
use mathlib.Core.Path.{sym, subst}
use Rattle.tape.specs.Steps.{Keeps}
use Rattle.api.proofs.Showing.{by_answer}
use Rattle.api.proofs.Keeping.{kept_shown, kept_refused}
use Rattle.api.proofs.partitions.klapouzen_keep.Goals as goal

pub returns : goal.returns
returns c =
    by_answer c.keep.result c.tell.ensures (λ f e p. kept_shown f (subst (Keeps _ _ _) (sym e) c.keep.ensures) p.0 p.1)
    (λ r e q. kept_refused r (subst (Keeps _ _ _) (sym e) c.keep.ensures) q.0 q.1.1)
