-- `next` of the rows gives the first row, and leaves those of what follows its numbers.
use Rattle.std.proofs.Common.{arith, rules, length, ◌-◌, take, drop, ◌≡◌}
use Rattle.std.proofs.lemmas.Grind.{common_steps}
use Rattle.extents.proofs.Rows.{rows_none, rows_first}
use Rattle.extents.proofs.EachRowIterator.next.Goals as goal

pub returns-in_default-clause-steps : goal.returns-in_default-clause-steps
returns-in_default-clause-steps c = let e = rows_none c.args.self.now.0.now c.in_default.len_below in (e, e)

pub returns-in-len5-up-clause-steps : goal.returns-in-len5-up-clause-steps
returns-in-len5-up-clause-steps c =
    let s = c.args.self.now.0.now in
    let e = rows_first s c.in-len5-up.len_at_least in
    let w : take (length s - 5) (drop 5 s) ≡ drop 5 s = grind (arith, common_steps) in
    rw (w, e)

pub returns-in-len5-up-clause-goes : goal.returns-in-len5-up-clause-goes
returns-in-len5-up-clause-goes c =
    let s = c.args.self.now.0.now in
    let e = rows_first s c.in-len5-up.len_at_least in
    let w : take (length s - 5) (drop 5 s) ≡ drop 5 s = grind (arith, common_steps) in
    rw w (search rules)
