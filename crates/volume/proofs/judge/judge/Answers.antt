-- `judge` meets its contract: breaks 1 and 2, then the breaks by the tables of both partitions.
use Rattle.volume.proofs.Answering.{judges_1, judges_2, judges_on}
use mathlib.Core.Path.{subst}
use mathlib.Core.Bool.{Bool}
use Rattle.volume.specs.Steps.{EndsAt}
use Rattle.volume.proofs.judge.judge.Goals as goal

pub returns-then-not-ends : goal.returns-then-not-ends
returns-then-not-ends c =
    judges_1 c.args.reader c.args.index c.args.«data» c.fill-index.result c.fill-index.ensures (subst (EndsAt _ _ _) c.if-not-ends.true c.ends.ensures)

pub returns-then-not-ends-2 : goal.returns-then-not-ends-2
returns-then-not-ends-2 c =
    judges_2 c.args.reader c.args.index c.args.«data» c.fill-index.result c.fill-index.ensures c.fill-data.result c.fill-data.ensures
    (subst (EndsAt _ _ _) c.if-not-ends.false c.ends.ensures) (subst (EndsAt _ _ _) c.if-not-ends-2.true c.ends-2.ensures)

pub returns : goal.returns
returns c =
    judges_on c.args.reader c.args.index c.args.«data» c.fill-index.result c.fill-index.ensures c.fill-data.result c.fill-data.ensures
    (subst (EndsAt _ _ _) c.if-not-ends.false c.ends.ensures) (subst (EndsAt _ _ _) c.if-not-ends-2.false c.ends-2.ensures) c.judge_indexes.result c.judge_indexes.ensures
