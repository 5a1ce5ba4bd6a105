-- `write_rows` meets its contract. Invariant: with the rows that are left written from the next place on, the buffer holds all.
use Prim.Native.Nat.{ℕ, ◌+◌, ◌*◌}
use mathlib.Core.Path.{◌≡◌, ap, ◌∙◌, subst}
use native.Mathlib.Omega.{arith}
use lib.ListN.{length}
use Rattle.slices.specs.Slices.{written}
use Rattle.extents.specs.Rows.{five, numbers_of}
use Rattle.index_files.specs.RowSteps.{row_is}
use Rattle.index_files.specs.EachRow.{rows_left}
use Rattle.index_files.proofs.Buffers.{Writing, writing_done, row_on}
use Rattle.index_files.proofs.filling.write_rows.Goals as goal

pub loop-k-preserved : goal.loop-k-preserved
loop-k-preserved c =
    let l = c.loop-k in
    let all = rows_left c.args.rows in
    let left = rows_left c.next.new.self.iter in
    let step = c.in-Some.ensures.steps in
    let put = c.put_row.ensures ∙ ap (λ (k : ℕ). written (k * 5) (five (row_is c.in-Some.row)) l.out) step.1 in
    let on : l.k-iterator.count * 5 + 5 ≡ c.next.new.self.count * 5 = omega (arith, step.2) in
    subst (λ (k : ℕ). Writing (written 0 (numbers_of all) c.args.out.now) (0 + length all * 5) c.args.out.now c.put_row.new.out k left) on
    (row_on l.invariant (row_is c.in-Some.row) left step.0 put)

pub returns : goal.returns
returns c = (writing_done c.loop-k.invariant c.in-None.ensures.steps.0.0).0
