-- `klapouzen_rescue` meets its contract: the cut in numbers, and demand 3 of them.
use Rattle.std.specs.Prelude.{Err, Ok}
use mathlib.Core.Path.{refl, sym, subst}
use Rattle.volume.specs.Answers.{Rescues}
use Rattle.api.proofs.Showing.{by_answer, shown, not_shown}
use Rattle.volume.proofs.TextFronts.{rescue_front}
use Rattle.api.proofs.Fronts.{side_answered, side_told}
use Rattle.api.proofs.volumes.klapouzen_rescue.Goals as goal

pub returns : goal.returns
returns c =
    let a = c.args in
    by_answer c.find_cut-cut.result c.tell.ensures
    (λ k e p.
    side_answered p.0 (record { rescue = Ok k; rescues = subst (Rescues _ _ _ _) (sym e) c.find_cut-cut.ensures; shows = shown _ refl p.0 (rw p.1) }) (rw p.1) (rw p.1))
    (λ r e q.
    let w = subst (Rescues a.index_list.now a.index_store.now a.data_list.now a.data_store.now) (sym e) c.find_cut-cut.ensures in
    side_told r (rescue_front a.index_list.now a.index_store.now a.data_list.now a.data_store.now) w.answers q.0 (rw q.1.1) (rw q.1.1)
    (record { rescue = Err r; rescues = w; shows = not_shown r refl q.0 (rw q.1.1) }))
