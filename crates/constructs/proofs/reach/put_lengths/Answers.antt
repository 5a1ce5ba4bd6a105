-- `put_lengths` meets its contract. Invariant: the table holds the lengths of the elements passed, and those left go on from here.
use Rattle.std.proofs.Common.{◌≡◌, ◌≤◌, length, arith, rules, inl}
use Rattle.tape.specs.CellSteps.{cells_rest}
use Rattle.tape.proofs.Left.{left_few}
use Rattle.constructs.proofs.Lengths.{lengths_start, lengths_past_mark, lengths_past_block, lengths_past_unreadable, lengths_end, block_bound, length_at_most}
use Rattle.constructs.proofs.reach.put_lengths.Goals as goal
use Rattle.constructs.proofs.reach.put_lengths.Goals.{in-Mark, in-Block, in-Unreadable}

pub loop-at-init-derived : goal.loop-at-init-derived
loop-at-init-derived c =
    let i = c.into_iter-at-iterator.ensures.into_iter_gives in
    let few : length (cells_rest c.into_iter-at-iterator.result.iter) ≤ 65536 = rw (i, c.enumerate-at-items.ensures.source, c.new.ensures) (left_few c.requires.1.encodes) in
    let start : c.into_iter-at-iterator.result.count ≡ 0 = rw i c.enumerate-at-items.ensures.count in
    ((tt, tt, inl (omega arith)), tt)

pub loop-at-init : goal.loop-at-init
loop-at-init c =
    let i = c.into_iter-at-iterator.ensures.into_iter_gives in
    lengths_start c.args.list.now c.args.store.now c.args.table.now c.requires (rw (i, c.enumerate-at-items.ensures.source) c.new.ensures) (rw i c.enumerate-at-items.ensures.count)

pub overflow_cast-table : goal.overflow_cast-table
overflow_cast-table c =
    let short = block_bound c.loop-at.invariant (rw c.in-Block.is at c.in-Some.ensures.steps.0) in
    let most = length_at_most c.loop-at.labels c.loop-at.even c.in-Block.n in
    let is = c.data_length.ensures in
    search rules

pub loop-at-preserved : goal.loop-at-preserved
loop-at-preserved c =
    let m = c.loop-at.invariant in
    let st = c.in-Some.ensures.steps in
    let fewer = c.saturating_sub-labels.ensures in
    elim c.match-cell.branch [
      | in-Mark w ↦ rw (fewer, st.2, w.table-is, w.even-is, w.even_after-even.ensures, st.1) (lengths_past_mark m (rw w.in-Mark.is at st.0))
      | in-Block w ↦ rw (fewer, st.2, w.table-is, w.even-is, w.data_length.ensures, st.1) (lengths_past_block m (rw w.in-Block.is at st.0))
      | in-Unreadable w ↦ rw (fewer, st.2, w.table-is, w.even-is, st.1) (lengths_past_unreadable m (rw w.in-Unreadable.is at st.0))
    ]

pub returns : goal.returns
returns c = lengths_end c.loop-at.invariant c.in-None.ensures.steps.0.0
