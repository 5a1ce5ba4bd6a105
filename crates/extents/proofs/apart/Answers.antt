-- `extents::apart` meets its contract. Invariant: the rows behind are apart, and none begins below low.
use Rattle.std.proofs.Common.{ℕ, List, ◌≡◌, ◌≤◌, ◌<◌, ◌+◌, ◌-◌, ◌*◌, sym, ◌∙◌, ap, arith, length, take, drop, leb-true}
use Rattle.slices.specs.Slices.{every}
use Rattle.extents.specs.declared.Row.{Row}
use Rattle.extents.specs.Rows.{rows_of}
use Rattle.extents.specs.Steps.{row_from}
use Rattle.extents.specs.Lawful.{row_end, clear}
use Rattle.extents.proofs.Rows.{rows_behind}
use Rattle.extents.proofs.Backwards.{clear_above, above_lower, above_more, apart_more, shared_before, apart_end, above_end}
use Rattle.extents.proofs.apart.Goals as goal

-- the comparison of the row before k with the rows behind it
compared : (s : List ℕ) (k : ℕ) {r : Row} → 0 < k → r ≡ row_from s ((k - 1) * 5)
    → every (clear r) (rows_of (take (length s - (k - 1 + 1) * 5) (drop ((k - 1 + 1) * 5) s))) ≡ every (clear (row_from s ((k - 1) * 5))) (drop k (rows_of s))
compared s k h is = rw is (ap (every (clear (row_from s ((k - 1) * 5)))) (rows_behind s k h))

pub loop-k-init : goal.loop-k-init
loop-k-init c = let s = c.args.rows.now in (apart_end s, above_end _ s)

pub loop-k-preserved-then-ends_by : goal.loop-k-preserved-then-ends_by
loop-k-preserved-then-ends_by c =
    let s = c.args.rows.now in
    let l = c.loop-k in
    let row = c.row_at-row.result in
    let is = c.row_at-row.ensures in
    let h : row_end row ≤ l.low = leb-true _ l.low (sym c.ends_by.ensures ∙ c.if-ends_by.true) in
    let begins = ap (λ (r : Row). r.fileoffset) is in
    let alone = clear_above row l.low (drop l.k (rows_of s)) h l.invariant.1 in (
      apart_more s l.k (omega arith) (omega arith) (rw is at alone) l.invariant.0,
      above_more s l.k (omega arith) (omega arith) row.fileoffset (omega arith)
          (above_lower l.low row.fileoffset (drop l.k (rows_of s)) (omega arith) l.invariant.1),
    )

pub returns-then-not-is_clear_of : goal.returns-then-not-is_clear_of
returns-then-not-is_clear_of c =
    let s = c.args.rows.now in
    let l = c.loop-k in
    let z = c.is_clear_of.ensures ∙ compared s l.k (omega arith) c.row_at-row.ensures in
    sym (shared_before s l.k (omega arith) (omega arith) (sym z ∙ c.if-not-is_clear_of.true))

pub loop-k-preserved : goal.loop-k-preserved
loop-k-preserved c =
    let s = c.args.rows.now in
    let l = c.loop-k in
    let z = c.is_clear_of.ensures ∙ compared s l.k (omega arith) c.row_at-row.ensures in
    let m = c.min-low.ensures in
    let begins = ap (λ (r : Row). r.fileoffset) c.row_at-row.ensures in (
      apart_more s l.k (omega arith) (omega arith) (sym z ∙ c.if-not-is_clear_of.false) l.invariant.0,
      above_more s l.k (omega arith) (omega arith) c.min-low.result (omega arith)
          (above_lower l.low c.min-low.result (drop l.k (rows_of s)) (omega arith) l.invariant.1),
    )
