-- `read_construct` meets its contract: 14, 1, 2, then the text.
use Rattle.std.proofs.lemmas.Result.{err_from_is_err_and}
use Rattle.volume.proofs.Choosing.{chosen_caller, chosen_list, chosen_missing, chosen_found}
use Rattle.index_values.specs.Steps.{given}
use lib.ListN.{replicate, length-replicate}
use Prim.Native.Nat.{ℕ}
use mathlib.Core.Path.{sym, ◌∙◌}
use Rattle.volume.proofs.chosen.read_construct.Goals as goal

pub returns-then-not-is_caller_right : goal.returns-then-not-is_caller_right
returns-then-not-is_caller_right c =
    let a = c.args in
    chosen_caller (given a.uuid.now a.volume) a.letter a.k a.list.now a.store.now (sym c.is_caller_right.ensures ∙ c.if-not-is_caller_right.true)

pub returns-in_err-n : goal.returns-in_err-n
returns-in_err-n c =
    let a = c.args in
    let p = err_from_is_err_and c.from_residual.result c.from_residual.ensures.1 in
    rw (p.1, p.2)
    (chosen_list (given a.uuid.now a.volume) a.letter a.k a.list.now a.store.now (sym c.is_caller_right.ensures ∙ c.if-not-is_caller_right.false)
    (replicate 87380 0) _ c.scan.result c.scan.ensures c.in_err-n.field-0.0 c.in_err-n.was)

pub returns-then-n-k : goal.returns-then-n-k
returns-then-n-k c =
    let a = c.args in
    chosen_missing (given a.uuid.now a.volume) a.letter a.k a.list.now a.store.now (sym c.is_caller_right.ensures ∙ c.if-not-is_caller_right.false)
    (replicate 87380 0) _ c.scan.result c.scan.ensures (λ i. (c.type_inv.list i).fits) (length-replicate {A = ℕ} 87380 0) c.in_ok-n.n c.in_ok-n.was c.if-n-k.true

pub returns : goal.returns
returns c =
    let a = c.args in
    chosen_found (given a.uuid.now a.volume) a.letter a.k a.list.now a.store.now (sym c.is_caller_right.ensures ∙ c.if-not-is_caller_right.false)
    (replicate 87380 0) _ c.scan.result c.scan.ensures (λ i. (c.type_inv.list i).fits) (length-replicate {A = ℕ} 87380 0) c.in_ok-n.n c.in_ok-n.was c.if-n-k.false
    c.construct-place.result c.construct-place.ensures c.read_place.result c.read_place.ensures
