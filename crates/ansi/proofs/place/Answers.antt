-- `place` meets its contract: the list is checked, and then walked.
use Rattle.tape.proofs.Keeping.{present}
use Rattle.tape.proofs.Passing.{encoded}
use Rattle.ansi.proofs.Answering.{place_found, place_stopped}
use Rattle.ansi.proofs.place.Goals as goal

pub walk-requires : goal.walk-requires
walk-requires c =
    let a = c.args in
    let q = present a.list.now a.store.now c.in_ok-count.count (λ i. (c.type_inv.list i).fits) c.in_ok-count.ensures in
    (encoded a.list.now a.store.now c.in_ok-count.count q, c.empty-text.ensures)

pub returns-in-Ok : goal.returns-in-Ok
returns-in-Ok c =
    let a = c.args in
    let q = present a.list.now a.store.now c.in_ok-count.count (λ i. (c.type_inv.list i).fits) c.in_ok-count.ensures in
    place_found a.list.now a.store.now c.in_ok-count.count q (rw c.in-Ok.is at (c.walk.ensures q.tape q.encodes))

pub returns-in-Err : goal.returns-in-Err
returns-in-Err c =
    let a = c.args in
    let q = present a.list.now a.store.now c.in_ok-count.count (λ i. (c.type_inv.list i).fits) c.in_ok-count.ensures in
    place_stopped a.list.now a.store.now c.in_ok-count.count q c.in-Err.stop.refusal (rw c.in-Err.is at (c.walk.ensures q.tape q.encodes))
