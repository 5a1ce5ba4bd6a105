-- `klapouzen_check_list` meets its contract: what the check answers.
use mathlib.Core.Path.{subst}
use Prim.Native.Nat.{ℕ}
use Rattle.refusals.specs.Refusals.{Answer}
use Rattle.api.specs.Outputs.{Shown, one}
use Rattle.api.proofs.partitions.klapouzen_check_list.Goals as goal

pub returns : goal.returns
returns c = subst (λ (a : Answer ℕ). Shown 1 one a c.tell_count.result (one c.tell_count.new.count)) c.check.ensures c.tell_count.ensures
