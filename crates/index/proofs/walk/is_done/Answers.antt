-- `is_done` meets its contract: each name as often as it must come.
use Rattle.std.proofs.Common.{◌↔◌, IsTrue, EachIndex, ℕ, Bool, get_or, length, rules, ap, sym, ◌∙◌}
use Rattle.std.proofs.iter.runs.Made.{chains}
use Rattle.children.specs.Children.{below}
use Rattle.index.specs.Structure.{right_often}
use Rattle.index.specs.SweepSteps.{row_done}
use Rattle.index.proofs.Counted.{below_told}
use Rattle.index.proofs.walk.is_done.Goals as goal

pub returns-else-may_repeat : goal.returns-else-may_repeat
unfolding row_done
returns-else-may_repeat c =
    let needed = c.must_in-needed.result in
    let seen = c.args.seen.now in
    let test : ℕ → Bool = λ (k : ℕ). right_often needed k (get_or seen k 0) in
    let each : (IsTrue c.all.result ↔ EachIndex seen (λ k. IsTrue (right_often needed k (get_or seen k 0)))) = search (rules, chains) in
    below_told test (length seen) c.all.result each ∙ sym (rw (sym (c.if-may_repeat.ensures {u = tt}), ← c.must_in-needed.ensures) (sym (ap (λ (n : ℕ). below n test) c.told-seen)))
