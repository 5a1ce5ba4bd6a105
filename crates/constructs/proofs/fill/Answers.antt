-- `constructs::fill` meets its contract. Invariant: the walk matches the scan of the elements passed.
use Rattle.std.proofs.Common.{◌≡◌, ◌≤◌, length, arith, rules, inl}
use Rattle.tape.specs.CellSteps.{cells_rest}
use Rattle.tape.proofs.Left.{left_few}
use Rattle.constructs.proofs.Filling.{matched_start, matched_mark, matched_block, matched_unreadable, matched_end, roomy_mark, few_marks, bytes_bound}
use Rattle.constructs.proofs.fill.Goals as goal

pub loop-at-init-derived : goal.loop-at-init-derived
loop-at-init-derived c =
    let i = c.into_iter-at-iterator.ensures.into_iter_gives in
    let few : length (cells_rest c.into_iter-at-iterator.result.iter) ≤ 65536 = rw (i, c.enumerate-at-items.ensures.source, c.new.ensures) (left_few c.requires.1.encodes) in
    let start : c.into_iter-at-iterator.result.count ≡ 0 = rw i c.enumerate-at-items.ensures.count in
    ((tt, tt, inl (omega arith)), tt)

pub loop-at-init : goal.loop-at-init
loop-at-init c =
    let i = c.into_iter-at-iterator.ensures.into_iter_gives in
    matched_start c.args.size c.args.list.now c.args.store.now c.args.table.now c.requires (rw (i, c.enumerate-at-items.ensures.source) c.new.ensures) (rw i c.enumerate-at-items.ensures.count)

pub close-n-requires : goal.close-n-requires
close-n-requires c =
    let st = c.in-Some.ensures.steps in
    rw st.1 (roomy_mark c.loop-at.invariant (rw c.in-Mark.is at st.0))

pub after_mark-phase-requires : goal.after_mark-phase-requires
after_mark-phase-requires c =
    let st = c.in-Some.ensures.steps in
    let few = few_marks c.loop-at.invariant (rw c.in-Mark.is at st.0) in
    omega (arith, st.1)

pub loop-at-preserved-in-Mark : goal.loop-at-preserved-in-Mark
loop-at-preserved-in-Mark c =
    let st = c.in-Some.ensures.steps in
    rw (st.2, c.close-n.ensures.0, c.close-n.ensures.1, c.after_mark-phase.ensures, st.1) (matched_mark c.loop-at.invariant (rw c.in-Mark.is at st.0))

pub overflow_add-off : goal.overflow_add-off
overflow_add-off c =
    let st = c.in-Some.ensures.steps in
    let b = bytes_bound (matched_block c.loop-at.invariant (rw c.in-Block.is at st.0)) in
    search rules

pub loop-at-preserved-in-Block : goal.loop-at-preserved-in-Block
loop-at-preserved-in-Block c =
    let st = c.in-Some.ensures.steps in
    rw (st.2, c.after_block-phase.ensures) (matched_block c.loop-at.invariant (rw c.in-Block.is at st.0))

pub loop-at-preserved : goal.loop-at-preserved
loop-at-preserved c =
    let st = c.in-Some.ensures.steps in
    rw (st.2, c.after_unreadable-phase.ensures) (matched_unreadable c.loop-at.invariant (rw c.in-Unreadable.is at st.0))

pub returns : goal.returns
returns c = matched_end c.loop-at.invariant c.in-None.ensures.steps.0.0
