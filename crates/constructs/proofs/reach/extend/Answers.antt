-- `extend` meets its contract. Invariant: behind element i the table holds how far data blocks reach, before it the lengths.
use Rattle.std.proofs.Common.{◌-◌, get_or, rules, arith}
use Rattle.constructs.proofs.Reaching.{reach_start, reach_value, reach_bound, reach_one_sum, reach_back, reach_end}
use Rattle.constructs.proofs.reach.extend.Goals as goal

pub loop-i-init : goal.loop-i-init
loop-i-init c = reach_start c.args.size c.args.count c.args.table.now c.requires.0 c.requires.1

pub reach_one-next-requires : goal.reach_one-next-requires
reach_one-next-requires c =
    let bound = reach_bound c.loop-i.invariant c.loop-i-test.true in
    let value = reach_value c.loop-i.invariant c.loop-i-test.true in
    search rules

pub overflow_cast-table-in-loop-i : goal.overflow_cast-table-in-loop-i
overflow_cast-table-in-loop-i c =
    let bound = reach_bound c.loop-i.invariant c.loop-i-test.true in
    let value = reach_value c.loop-i.invariant c.loop-i-test.true in
    let is = c.reach_one-next.ensures in
    let most = reach_one_sum c.args.size (get_or c.loop-i.table (c.loop-i.i - 1) 0) c.loop-i.next in
    search rules

pub loop-i-preserved : goal.loop-i-preserved
loop-i-preserved c = rw (c.reach_one-next.ensures, reach_value c.loop-i.invariant c.loop-i-test.true) (reach_back c.loop-i.invariant c.loop-i-test.true)

pub returns : goal.returns
returns c = reach_end c.loop-i.invariant (omega arith)
