-- `check` meets its contract: a check at each return; where all pass, the labels are read from parts of the stores.
use Rattle.std.specs.Prelude.{None, Some, Err}
use Rattle.std.proofs.Common.{◌≡◌, ◌+◌, ◌-◌, arith, rules, sym, ◌∙◌}
use Rattle.std.proofs.lemmas.List.{length-take-le}
use Rattle.std.proofs.lemmas.Result.{err_from_is_err_and}
use Rattle.refusals.specs.declared.Refusal.TheVariants.{Layout}
use Rattle.tape.proofs.Keeping.{absent}
use Rattle.label.proofs.Places.{refuses, reads_as}
use Rattle.labels.proofs.Moving.{reads_moved, begins}
use Rattle.labels.proofs.Sides.{Side, side, no_side, found, no_list, no_data_list, no_layout, no_data_layout, in_parts, places_laid}
use Rattle.labels.proofs.check.Goals.{In_ok-other}
use Rattle.labels.proofs.check.Goals as goal

pub returns-in_err-check : goal.returns-in_err-check
returns-in_err-check c =
    let a = c.args in
    let p = err_from_is_err_and c.from_residual.result c.from_residual.ensures.1 in
    rw (p.1, p.2) (refuses (no_list a.index_list.now a.index_store.now a.data_list.now a.data_store.now (absent _ _ _ c.in_err-check.ensures)))

pub returns-in_err-check-2 : goal.returns-in_err-check-2
returns-in_err-check-2 c =
    let a = c.args in
    let i = found a.index_list.now a.index_store.now (λ k. (c.type_inv.index_list k).fits) c.in_ok-check.ensures in
    let p = err_from_is_err_and c.from_residual-in_err-check-2.result c.from_residual-in_err-check-2.ensures.1 in
    rw (p.1, p.2) (refuses (no_data_list a.index_list.now a.index_store.now a.data_list.now a.data_store.now i.read (absent _ _ _ c.in_err-check-2.ensures)))

pub returns-in_err-index : goal.returns-in_err-index
returns-in_err-index c =
    let a = c.args in
    let n : c.lay_out.result ≡ None = grind arith in
    let i = no_side a.index_list.now a.index_store.now (λ k. (c.type_inv.index_list k).fits) c.in_ok-check.ensures c.lay_out.ensures n in
    let d = found a.data_list.now a.data_store.now (λ k. (c.type_inv.data_list k).fits) c.in_ok-check-2.ensures in
    let r : c.from_residual-in_err-index.result ≡ Err Layout = grind arith in
    rw r (refuses (no_layout a.index_list.now a.index_store.now a.data_list.now a.data_store.now i.read d.read i.blocks))

pub returns-in_err-other : goal.returns-in_err-other
returns-in_err-other c =
    let a = c.args in
    let m : c.lay_out.result ≡ Some c.in_ok-index.index = grind arith in
    let n : c.lay_out-2.result ≡ None = grind arith in
    let i = side a.index_list.now a.index_store.now (λ k. (c.type_inv.index_list k).fits) c.in_ok-check.ensures _ c.lay_out.ensures m in
    let d = no_side a.data_list.now a.data_store.now (λ k. (c.type_inv.data_list k).fits) c.in_ok-check-2.ensures c.lay_out-2.ensures n in
    let r : c.from_residual-in_err-other.result ≡ Err Layout = grind arith in
    rw r (refuses (no_data_layout a.index_list.now a.index_store.now a.data_list.now a.data_store.now i.read d.read i.blocks.laid d.blocks))

-- the two sides, laid out
index_side : (c : In_ok-other) → Side c.args.index_list.now c.args.index_store.now c.in_ok-index.index
index_side c =
    let m : c.lay_out.result ≡ Some c.in_ok-index.index = grind arith in
    side c.args.index_list.now c.args.index_store.now (λ k. (c.type_inv.index_list k).fits) c.in_ok-check.ensures _ c.lay_out.ensures m

data_side : (c : In_ok-other) → Side c.args.data_list.now c.args.data_store.now c.in_ok-other.other
data_side c =
    let m : c.lay_out-2.result ≡ Some c.in_ok-other.other = grind arith in
    side c.args.data_list.now c.args.data_store.now (λ k. (c.type_inv.data_list k).fits) c.in_ok-check-2.ensures _ c.lay_out-2.ensures m

pub overflow_add-index_end : goal.overflow_add-index_end
overflow_add-index_end c = let w = (index_side (goal.at.overflow_add-index_end c).In_ok-other).blocks.within in search rules

pub overflow_add-other_end : goal.overflow_add-other_end
overflow_add-other_end c = let w = (data_side (goal.at.overflow_add-other_end c).In_ok-other).blocks.within in search rules

pub slice_bounds-read_sides-end : goal.slice_bounds-read_sides-end
slice_bounds-read_sides-end c =
    let w = (index_side (goal.at.slice_bounds-read_sides-end c).In_ok-other).blocks.within in
    sym (length-take-le c.in_ok-index.index.vol1 c.args.index_store.now (omega arith))

pub slice_bounds-read_sides-end-2 : goal.slice_bounds-read_sides-end-2
slice_bounds-read_sides-end-2 c = let w = (index_side (goal.at.slice_bounds-read_sides-end-2 c).In_ok-other).blocks.within in search rules

pub slice_bounds-read_sides-end-3 : goal.slice_bounds-read_sides-end-3
slice_bounds-read_sides-end-3 c =
    let w = (data_side (goal.at.slice_bounds-read_sides-end-3 c).In_ok-other).blocks.within in
    sym (length-take-le c.in_ok-other.other.vol1 c.args.data_store.now (omega arith))

pub slice_bounds-read_sides-end-4 : goal.slice_bounds-read_sides-end-4
slice_bounds-read_sides-end-4 c = let w = (data_side (goal.at.slice_bounds-read_sides-end-4 c).In_ok-other).blocks.within in search rules

pub returns-in_err-said : goal.returns-in_err-said
returns-in_err-said c =
    let a = c.args in
    let i = index_side (goal.at.returns-in_err-said c).In_ok-other in
    let d = data_side (goal.at.returns-in_err-said c).In_ok-other in
    let p = err_from_is_err_and c.from_residual-in_err-said.result c.from_residual-in_err-said.ensures.1 in
    rw (p.1, p.2)
    (refuses (c.in_err-said.ensures.says ∙ in_parts a.index_list.now a.index_store.now a.data_list.now a.data_store.now i.read d.read i.blocks d.blocks))

pub in_store-requires : goal.in_store-requires
in_store-requires c =
    let n = c.in_ok-index.index.vol1 in
    let m = c.in_ok-index.index.text in
    let w = (index_side (goal.at.in_store-requires c).In_ok-other).blocks.within in
    let b = begins c.args.index_store.now (n + m - n) n (omega arith) c.in_ok-said.said c.in_ok-said.ensures.inside in
    record { creator = search rules; time = search rules; uuid = search rules }

pub returns : goal.returns
returns c =
    let a = c.args in
    let i = index_side (goal.at.returns c).In_ok-other in
    let d = data_side (goal.at.returns c).In_ok-other in
    let n = c.in_ok-index.index.vol1 in
    let m = c.in_ok-index.index.text in
    let f = c.in_ok-said.said in
    let w = i.blocks.within in
    rw c.in_store.ensures
    (reads_as (in_parts a.index_list.now a.index_store.now a.data_list.now a.data_store.now i.read d.read i.blocks d.blocks)
    (places_laid a.index_list.now a.index_store.now i.read i.blocks)
    (reads_moved a.index_store.now (n + m - n) n (omega arith) f c.in_ok-said.ensures.says c.in_ok-said.ensures.inside c.in_ok-said.ensures.stands))
