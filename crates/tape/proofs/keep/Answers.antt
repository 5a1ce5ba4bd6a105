-- `tape::keep` meets its contract: the walk over the smaller of n and the count reaches behind what n elements keep.
use Rattle.std.proofs.Common.{Ok, sym, ◌∙◌, ap, subst, rules}
use Rattle.tape.specs.declared.Front.{Front}
use Rattle.tape.specs.WalkSteps.{reach}
use Rattle.tape.specs.Steps.{Keeps}
use Rattle.std.proofs.lemmas.Result.{err_from_is_err_and}
use Rattle.tape.proofs.Entries.{Bytes}
use Rattle.tape.proofs.Keeping.{present, reach_kept}
use Rattle.tape.proofs.Again.{keeps_present, keeps_absent}
use Rattle.tape.proofs.keep.Goals as goal

pub returns-in_err-count : goal.returns-in_err-count
returns-in_err-count c =
    let a = c.args in
    let p = err_from_is_err_and c.from_residual.result c.from_residual.ensures.1 in
    rw (p.1, p.2) (keeps_absent a.n a.list.now a.store.now (λ i. (c.type_inv.list i).fits) _ (sym c.in_err-count.was ∙ c.check.ensures))

pub walk-requires : goal.walk-requires
walk-requires c =
    let p = present c.args.list.now c.args.store.now _ (λ i. (c.type_inv.list i).fits) (sym c.in_ok-count.was ∙ c.check.ensures) in
    let few = p.encodes.elements in
    let count = p.count in
    let least = c.min.ensures in
    search rules

pub returns : goal.returns
returns c =
    let a = c.args in
    let bytes : Bytes a.list.now = λ i. (c.type_inv.list i).fits in
    let p = present a.list.now a.store.now _ bytes (sym c.in_ok-count.was ∙ c.check.ensures) in
    let e = c.walk.ensures ∙ ap (λ k. reach k a.list.now 0 0) c.min.ensures ∙ reach_kept a.n _ a.list.now a.store.now p in
    subst (λ (f : Front). Keeps a.n a.list.now a.store.now (Ok f)) (sym e) (keeps_present a.n a.list.now a.store.now bytes _ p)
