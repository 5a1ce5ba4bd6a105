-- `judge_indexes` meets its contract: break 3, then the breaks of the last constructs.
use lib.ListN.{get_or}
use Prim.Native.Nat.{ℕ}
use mathlib.Core.Path.{ap, ◌∙◌}
use Rattle.volume.proofs.Answering.{judges_3, judges_rest}
use Rattle.volume.proofs.judge.judge_indexes.Goals as goal

pub returns-then-k-filled : goal.returns-then-k-filled
returns-then-k-filled c = judges_3 c.args.filled.now _ c.chain-k.result c.chain-k.ensures c.if-k-filled.true

pub returns : goal.returns
returns c =
    judges_rest c.args.filled.now _ c.chain-k.result c.chain-k.ensures c.item.result c.judge_last.result c.if-k-filled.false
    (c.item.ensures ∙ ap (λ (n : ℕ). get_or c.chain-k.new.generations n 0) c.last.ensures) c.judge_last.ensures
